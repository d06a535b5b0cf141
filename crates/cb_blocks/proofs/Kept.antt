-- A stock stays whole where a number is taken or given back.
use Rattle.std.proofs.Common.{◌≡◌, ◌∙◌, ℕ, ◌+◌, ◌-◌, ◌<◌, ◌≤◌, ◌^◌, List, [], ◌∷◌, ◌++◌, length, get_or, set, take, replicate, refl, sym, ap, subst, arith, length-set, max, inl, inr}
use Rattle.std.proofs.lemmas.Bool.{cases_lt}
use Rattle.std.proofs.lemmas.List.Folds.{sum_by-replicate}
use Rattle.std.proofs.lemmas.List.{get_or-replicate, get_or_past, length-replicate, get_or_push, length_push, take_at}
use Rattle.cb_blocks.specs.Holdings.{FreeTagged, IsHeld, IsKept, IsNext, tag}
use Rattle.cb_blocks.specs.Rows.{held, popped, pushed, row}
use Rattle.cb_blocks.proofs.Rowed.{held_popped, held_pushed}
use Rattle.cb_blocks.proofs.Standing.{stands_free_taken, stands_fresh_taken, stands_given}
use Rattle.cb_blocks.proofs.Tags.{apart_by_tags, free_taken_free, free_taken_rows, fresh_taken_free, fresh_taken_rows, given_free, given_rows}

pub sound : (rows : List (List ℕ)) (free tags : List ℕ) (count fresh parts most room longest : ℕ) → IsKept rows free tags count fresh parts most room
    → IsHeld (record { rows = rows; count = count; fresh = fresh; longest = longest })
sound rows free tags count fresh parts most room longest is =
    record { apart = apart_by_tags tags fresh rows (omega (arith, is.sum, is.within, is.bound)) is.rows_tagged; below = λ part i inside. (is.rows_tagged part i inside).0; few = omega (arith, is.sum); within = is.within; bound = is.bound }

pub kept_free_taken : (rows : List (List ℕ)) (free left tags : List ℕ) (count fresh parts most room part number : ℕ) → IsKept rows free tags count fresh parts most room → part < length rows → free ≡ left ++ number ∷ []
    → IsKept (pushed rows part number) left (set tags number (tag part (length (row rows part)))) count fresh parts most room
kept_free_taken rows free left tags count fresh parts most room part number is below split =
    let long : length free ≡ length left + 1 = ap length split ∙ length_push left number in
    let end : length free - 1 ≡ length left = omega (arith, long) in
    let last : get_or free (length free - 1) 0 ≡ number = ap (λ xs. get_or xs (length free - 1) 0) split ∙ get_or_push left number 0 (length free - 1) (sym end) in
    let front : take (length free - 1) free ≡ left = ap (λ xs. take (length free - 1) xs) split ∙ take_at left (number ∷ []) (length free - 1) (sym end) in
    let few : held rows ≤ 2 ^ 20 = omega (arith, is.sum, is.within, is.bound) in
    record {
      rows_tagged = free_taken_rows tags fresh parts rows free part number below is.parts_are few (omega (arith, is.within, is.whole)) is.rows_tagged is.free_tagged (omega (arith, long)) last;
      free_tagged = subst (λ xs. FreeTagged (set tags number (tag part (length (row rows part)))) fresh parts xs) front (free_taken_free tags fresh parts free number _ is.free_tagged (omega (arith, long)) last);
      stands = λ other small. stands_free_taken rows free left part number other below split (is.stands other small);
      sum = omega (arith, is.sum, long, held_pushed rows part number below);
      within = is.within;
      bound = is.bound;
      whole = length-set tags number _ ∙ is.whole;
      parts_are = length-set rows part _ ∙ is.parts_are;
      few_parts = is.few_parts;
      space = is.space;
      stack = is.stack;
    }

pub kept_fresh_taken : (rows : List (List ℕ)) (free tags : List ℕ) (count fresh parts most room part : ℕ) → IsKept rows free tags count fresh parts most room → part < length rows → fresh < count
    → IsKept (pushed rows part fresh) free (set tags fresh (tag part (length (row rows part)))) count (fresh + 1) parts most room
kept_fresh_taken rows free tags count fresh parts most room part is below less =
    record {
      rows_tagged = fresh_taken_rows tags fresh rows part below (omega (arith, less, is.whole)) is.rows_tagged;
      free_tagged = fresh_taken_free tags fresh parts free _ is.free_tagged;
      stands = λ other small. stands_fresh_taken rows free part fresh other below small is.stands;
      sum = omega (arith, is.sum, held_pushed rows part fresh below);
      within = omega (arith, less);
      bound = is.bound;
      whole = length-set tags fresh _ ∙ is.whole;
      parts_are = length-set rows part _ ∙ is.parts_are;
      few_parts = is.few_parts;
      space = is.space;
      stack = is.stack;
    }

pub kept_given : (rows : List (List ℕ)) (free tags : List ℕ) (count fresh parts most room part number : ℕ) → IsKept rows free tags count fresh parts most room → part < length rows → 0 < length (row rows part)
    → get_or (row rows part) (length (row rows part) - 1) 0 ≡ number
    → IsKept (popped rows part) (free ++ number ∷ []) (set tags number (tag parts (length free))) count fresh parts most room
kept_given rows free tags count fresh parts most room part number is below some last =
    let few : held rows ≤ 2 ^ 20 = omega (arith, is.sum, is.within, is.bound) in
    record {
      rows_tagged = given_rows tags fresh rows part number _ below few is.rows_tagged some last;
      free_tagged = given_free tags fresh parts rows free part number below is.parts_are few (omega (arith, is.within, is.whole)) is.rows_tagged is.free_tagged some last;
      stands = λ other small. stands_given rows free part number other below some last (is.stands other small);
      sum = omega (arith, is.sum, length_push free number, held_popped rows part below some);
      within = is.within;
      bound = is.bound;
      whole = length-set tags number _ ∙ is.whole;
      parts_are = length-set rows part _ ∙ is.parts_are;
      few_parts = is.few_parts;
      space = is.space;
      stack = is.stack;
    }

pub kept_taken : (rows : List (List ℕ)) (free left tags : List ℕ) (count fresh fresh' parts most room part number : ℕ) → IsKept rows free tags count fresh parts most room → part < length rows → held rows < count
    → IsNext free fresh left fresh' number → IsKept (pushed rows part number) left (set tags number (tag part (length (row rows part)))) count fresh' parts most room
kept_taken rows free left tags count fresh fresh' parts most room part number is below less next =
    let Good : List ℕ → ℕ → ℕ → Type 0 = λ l f n. IsKept (pushed rows part n) l (set tags n (tag part (length (row rows part)))) count f parts most room in
    elim next [
      | inl last ↦ subst (λ f. Good left f number) (sym last.1) (kept_free_taken rows free left tags count fresh parts most room part number is below last.0)
      | inr first ↦
          subst (λ f. Good left f number) (sym first.3) (subst (λ n. Good left (fresh + 1) n) (sym first.2) (subst (λ l. Good l (fresh + 1) fresh) (first.0 ∙ sym first.1)
          (kept_fresh_taken rows free tags count fresh parts most room part is below (omega (arith, is.sum, ap length first.0, less)))))
    ]

pub fresh_taken : (rows : List (List ℕ)) (free left tags : List ℕ) (count fresh fresh' parts most room number : ℕ) → IsKept rows free tags count fresh parts most room → held rows < count
    → IsNext free fresh left fresh' number → (number < count) × (fresh' ≡ max fresh (number + 1))
fresh_taken rows free left tags count fresh fresh' parts most room number is less next =
    elim next [
      | inl last ↦
          let long : length free ≡ length left + 1 = ap length last.0 ∙ length_push left number in
          let item : get_or free (length left) 0 ≡ number = ap (λ xs. get_or xs (length left) 0) last.0 ∙ get_or_push left number 0 (length left) refl in
          let small : number < fresh = subst (λ n. n < fresh) item (is.free_tagged (length left) (omega (arith, long))).0 in
          (omega (arith, small, is.within), omega (arith, small, last.1))
      | inr first ↦ (omega (arith, is.sum, ap length first.0, less, first.2), omega (arith, first.2, first.3))
    ]

pub kept_as : (rows rows' : List (List ℕ)) (free free' tags tags' : List ℕ) (count fresh parts most most' room room' : ℕ) → rows' ≡ rows → free' ≡ free → tags' ≡ tags → most' ≡ most → room ≤ room'
    → IsKept rows free tags count fresh parts most room → IsKept rows' free' tags' count fresh parts most' room'
kept_as rows rows' free free' tags tags' count fresh parts most most' room room' r f t m wide is =
    subst (λ x. IsKept x free' tags' count fresh parts most' room') (sym r)
    (subst (λ x. IsKept rows x tags' count fresh parts most' room') (sym f)
    (subst (λ x. IsKept rows free x count fresh parts most' room') (sym t)
    (subst (λ x. IsKept rows free tags count fresh parts x room') (sym m)
    (record { rows_tagged = is.rows_tagged; free_tagged = is.free_tagged; stands = is.stands; sum = is.sum; within = is.within; bound = is.bound; whole = is.whole; parts_are = is.parts_are; few_parts = is.few_parts; space = is.space; stack = omega (arith, is.stack, wide) }))))

-- rows without numbers
pub row_empty : (parts part : ℕ) → row (replicate parts []) part ≡ []
row_empty parts part = elim (cases_lt part parts) [
  | inl below ↦ get_or-replicate parts part [] [] below
  | inr past ↦ get_or_past (replicate parts []) part [] (omega (arith, past, length-replicate {A = List ℕ} parts []))
]

pub held_empty : (parts : ℕ) → held (replicate parts []) ≡ 0
held_empty parts = sum_by-replicate length parts [] ∙ omega arith

pub kept_empty : (tags : List ℕ) (count parts most room : ℕ) → count ≤ 2 ^ 20 → parts ≤ 2 ^ 12 → count ≤ most → count ≤ room → length tags ≡ count → IsKept (replicate parts []) [] tags count 0 parts most room
kept_empty tags count parts most room bound few space stack whole = record {
  rows_tagged = λ part i inside. absurd (omega (arith, inside, ap length (row_empty parts part)));
  free_tagged = λ i inside. absurd (omega (arith, inside));
  stands = λ number small. absurd (omega (arith, small));
  sum = omega (arith, held_empty parts);
  within = omega arith;
  bound = bound;
  whole = whole;
  parts_are = length-replicate parts [];
  few_parts = few;
  space = space;
  stack = stack;
}
