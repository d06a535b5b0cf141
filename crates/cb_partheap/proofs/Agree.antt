-- Searches that agree, and values made of their places that do.
use Rattle.std.proofs.Common.{◌≡◌, ◌≢◌, ◌∙◌, ℕ, zero, suc, ◌<◌, ◌==◌, ◌&&◌, Bool, true, false, Option, Some, None, cond, List, [], ◌∷◌, length, get_or, set, slice_get, take, refl, sym, ap, arith, inl, inr, length-set, get_or-set_same, get_or-set_other}
use Rattle.std.proofs.lemmas.Bool.{cases_eq, eqb-true}
use Rattle.std.proofs.lemmas.List.{same_lists}
use Rattle.std.proofs.lemmas.List.FromFn.{get_or-map-range_with_len, length-map-range_with_len}
use Rattle.std.proofs.lemmas.Option.{none-some, same_Some}
use Rattle.cb_plain.specs.State.{Content, Object}
use Rattle.cb_plain.specs.Updates.{with_contents_in}
use Rattle.cb_blocks.specs.Parted.{Parted}
use Rattle.cb_blocks.specs.Rows.{row, tabulated}
use Rattle.cb_partheap.specs.Spots.{IsSpot, Spot, first_below, if_passes, spot_in, spot_where, words_by}
use Rattle.cb_partheap.specs.Words.{is_whole_to, missing}

first_agree : {X : Type 0} (count : ℕ) (find find' : ℕ → Option X) → ((k : ℕ) → k < count → find k ≡ find' k) → first_below count find ≡ first_below count find'
first_agree {X} zero find find' same = refl
first_agree {X} (suc count) find find' same = rw (first_agree count find find' (λ k below. same k (omega (arith, below))), same count (omega arith)) refl

-- objects that begin alike are found alike by tests that agree on them
if_agree : (parts : Parted) (test test' : Spot → Bool) (spot : Spot) (whole : Bool) → is_whole_to (words_by parts spot) spot.start ≡ whole → spot.part < length parts.words → spot.start < length (words_by parts spot) →
    (IsSpot parts spot → test spot ≡ test' spot) → cond (whole && test spot) (Some spot) None ≡ cond (whole && test' spot) (Some spot) None
if_agree parts test test' spot true is part inside same =
    ap (λ passes. cond passes (Some spot) None) (same (record { part = part; inside = inside; whole = eqb-true (missing 0 (take spot.start (words_by parts spot))) 0 is }))
if_agree parts test test' spot false is part inside same = refl

pub spot_agree : (parts parts' : Parted) (test test' : Spot → Bool) → length parts'.words ≡ length parts.words → ((part : ℕ) → length (row parts'.words part) ≡ length (row parts.words part)) →
    ((part n : ℕ) → missing 0 (take n (row parts'.words part)) ≡ missing 0 (take n (row parts.words part))) → ((spot : Spot) → IsSpot parts spot → test spot ≡ test' spot) → spot_where parts test ≡ spot_where parts' test'
unfolding spot_where
spot_agree parts parts' test test' count long whole same =
    first_agree (length parts.words) (spot_in parts test) (spot_in parts' test') (λ part below.
    first_agree (length (row parts.words part)) (λ start. if_passes parts test (record { part = part; start = start })) (λ start. if_passes parts' test' (record { part = part; start = start })) (λ start inside.
    let spot : Spot = record { part = part; start = start } in
    if_agree parts test test' spot (is_whole_to (words_by parts spot) start) refl below inside (same spot)
    ∙ ap (λ n. cond ((n == 0) && test' spot) (Some spot) None) (sym (whole part start)))
    ∙ ap (λ n. first_below n (λ start. if_passes parts' test' (record { part = part; start = start }))) (sym (long part)))
    ∙ ap (λ n. first_below n (spot_in parts' test')) (sym count)

-- lists of values that are made of their places
pub same_tabulated : {X : Type 0} (count : ℕ) (value other : ℕ → X) → ((i : ℕ) → i < count → value i ≡ other i) → tabulated count value ≡ tabulated count other
same_tabulated {X} count value other same =
    same_lists _ _ (length-map-range_with_len value 0 count ∙ sym (length-map-range_with_len other 0 count))
    (λ k d h. let below : k < count = omega (arith, h, length-map-range_with_len value 0 count) in
    get_or-map-range_with_len value 0 count k k d below (omega arith) ∙ same k below ∙ sym (get_or-map-range_with_len other 0 count k k d below (omega arith)))

pub set_tabulated : {X : Type 0} (count : ℕ) (value other : ℕ → X) (at : ℕ) (x : X) → at < count → other at ≡ x → ((i : ℕ) → i < count → i ≢ at → other i ≡ value i) → tabulated count other ≡ set (tabulated count value) at x
set_tabulated {X} count value other at x below here elsewhere =
    let long = length-map-range_with_len value 0 count in
    let long' = length-map-range_with_len other 0 count in
    same_lists _ _ (long' ∙ sym (length-set (tabulated count value) at x ∙ long))
    (λ i d h. let inner : i < count = omega (arith, h, long') in
    get_or-map-range_with_len other 0 count i i d inner (omega arith)
    ∙ elim (cases_eq i at) [
      | inl same ↦ let inside : at < length (tabulated count value) = omega (arith, long, below) in
          ap other same ∙ here ∙ sym (get_or-set_same (tabulated count value) at x d inside) ∙ ap (λ k. get_or (set (tabulated count value) at x) k d) (sym same)
      | inr differs ↦ elsewhere i inner differs ∙ sym (get_or-set_other (tabulated count value) at i x d differs ∙ get_or-map-range_with_len value 0 count i i d inner (omega arith))
    ])

-- other contents in a kept object
abbrev pub with_contents : Object → List Content → Object
with_contents object contents = record { site = object.site; kind = object.kind; contents = contents }

pub changed_there : (objects : List (Option Object)) (place : ℕ) (object : Object) (contents : List Content) → slice_get objects place ≡ Some (Some object) →
    with_contents_in objects (suc place) contents ≡ set objects place (Some (with_contents object contents))
changed_there [] place object contents is = absurd (none-some (Some object) is)
changed_there (entry ∷ entries) zero object contents is = rw (same_Some entry (Some object) is) refl
changed_there (entry ∷ entries) (suc place) object contents is = ap (λ rest. entry ∷ rest) (changed_there entries place object contents is)
