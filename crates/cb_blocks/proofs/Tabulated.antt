-- Values that are made of their places.
use Rattle.std.proofs.Common.{◌≡◌, ◌∙◌, ℕ, ◌+◌, ◌-◌, ◌<◌, ◌≤◌, ◌≢◌, List, [], ◌∷◌, ◌++◌, length, get_or, set, take, replicate, sym, ap, arith, length-append, length-set, get_or-set_same, get_or-set_other, inl, inr}
use Rattle.std.proofs.lemmas.Bool.{cases_eq, cases_lt}
use Rattle.std.proofs.lemmas.List.{get_or-append_right, get_or-replicate, get_or_append_left, length-replicate, same_lists}
use Rattle.std.proofs.lemmas.List.FromFn.{get_or-map-range_with_len, length-map-range_with_len, map-range_with_len_more, take-map-range_with_len}
use Rattle.cb_blocks.specs.Rows.{tabulated}

pub length-tabulated : {X : Type 0} (count : ℕ) (value : ℕ → X) → length (tabulated count value) ≡ count
length-tabulated count value = length-map-range_with_len value 0 count

pub get_or-tabulated : {X : Type 0} (count : ℕ) (value : ℕ → X) (i : ℕ) (default : X) → i < count → get_or (tabulated count value) i default ≡ value i
get_or-tabulated count value i default below = get_or-map-range_with_len value 0 count i i default below (omega arith)

pub tabulated_more : {X : Type 0} (count : ℕ) (value : ℕ → X) → tabulated (count + 1) value ≡ tabulated count value ++ value count ∷ []
tabulated_more count value = map-range_with_len_more value 0 count count (omega arith)

pub take-tabulated : {X : Type 0} (count : ℕ) (value : ℕ → X) (k : ℕ) → k ≤ count → take k (tabulated count value) ≡ tabulated k value
take-tabulated count value k below = take-map-range_with_len value 0 count k below

pub same_tabulated : {X : Type 0} (count : ℕ) (value other : ℕ → X) → ((i : ℕ) → i < count → value i ≡ other i) → tabulated count value ≡ tabulated count other
same_tabulated count value other same =
    same_lists _ _ (length-tabulated count value ∙ sym (length-tabulated count other))
    (λ k d h. let below : k < count = omega (arith, length-tabulated count value) in
    get_or-tabulated count value k d below ∙ same k below ∙ sym (get_or-tabulated count other k d below))

-- a list that is as long, and has the values
pub is_tabulated : {X : Type 0} (xs : List X) (count : ℕ) (value : ℕ → X) → length xs ≡ count → ((i : ℕ) (d : X) → i < count → get_or xs i d ≡ value i) → xs ≡ tabulated count value
is_tabulated xs count value long same =
    same_lists _ _ (long ∙ sym (length-tabulated count value))
    (λ k d h. let below : k < count = omega (arith, long) in same k d below ∙ sym (get_or-tabulated count value k d below))

pub set_tabulated : {X : Type 0} (count : ℕ) (value other : ℕ → X) (at : ℕ) (x : X) → at < count → other at ≡ x → ((i : ℕ) → i < count → i ≢ at → other i ≡ value i)
    → set (tabulated count value) at x ≡ tabulated count other
set_tabulated count value other at x below here elsewhere =
    is_tabulated _ count other (length-set (tabulated count value) at x ∙ length-tabulated count value)
    (λ i d h. let long = length-tabulated count value in elim (cases_eq i at) [
      | inl same ↦ let inside : at < length (tabulated count value) = omega (arith, long) in
          ap (λ k. get_or (set (tabulated count value) at x) k d) same ∙ get_or-set_same (tabulated count value) at x d inside ∙ sym here ∙ ap other (sym same)
      | inr differs ↦ get_or-set_other (tabulated count value) at i x d differs ∙ get_or-tabulated count value i d h ∙ sym (elsewhere i h differs)
    ])

-- zeros behind
pub tabulated_zeros : (count more : ℕ) (value : ℕ → ℕ) → ((i : ℕ) → count ≤ i → i < count + more → value i ≡ 0) → tabulated (count + more) value ≡ tabulated count value ++ replicate more 0
tabulated_zeros count more value zeros =
    sym (is_tabulated (tabulated count value ++ replicate more 0) (count + more) value
    (omega (arith, length-append (tabulated count value) (replicate more 0), length-tabulated count value, length-replicate {A = ℕ} more 0))
    (λ i d h. elim (cases_lt i count) [
      | inl below ↦ get_or_append_left (tabulated count value) (replicate more 0) d i (omega (arith, below, length-tabulated count value)) ∙ get_or-tabulated count value i d below
      | inr past ↦
          get_or-append_right (tabulated count value) (replicate more 0) count i d (length-tabulated count value) past
          ∙ get_or-replicate more (i - count) 0 d (omega (arith, past, h)) ∙ sym (zeros i past h)
    ]))
