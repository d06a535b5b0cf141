-- A list with other items from a place on.
use Rattle.std.proofs.Common.{◌≡◌, ◌∙◌, ap, arith, refl, sym, ℕ, zero, suc, ◌+◌, ◌<◌, ◌≤◌, List, [], ◌∷◌, ◌++◌, drop, length, slice_get, slice_set, take}

abbrev pub over : {A : Type 0} → List A → ℕ → List A → List A
over items from new = take from items ++ new ++ drop (from + length new) items

-- behind the first item, and from the first on
pub over_past : {A : Type 0} (item : A) (items : List A) (from : ℕ) (new : List A) → over (item ∷ items) (suc from) new ≡ item ∷ over items from new
over_past item items from new =
    let same : suc from + length new ≡ suc (from + length new) = omega arith in
    ap (λ (count : ℕ). take (suc from) (item ∷ items) ++ new ++ drop count (item ∷ items)) same

pub over_first : {A : Type 0} (item : A) (items : List A) (one : A) (new : List A) → over (item ∷ items) 0 (one ∷ new) ≡ one ∷ over items 0 new
over_first item items one new =
    let same : 0 + suc (length new) ≡ suc (0 + length new) = omega arith in
    ap (λ (count : ℕ). take 0 (item ∷ items) ++ (one ∷ new) ++ drop count (item ∷ items)) same

pub over_none : {A : Type 0} (items : List A) (from : ℕ) → over items from [] ≡ items
over_none [] zero = refl
over_none {A} [] (suc from) =
    let same : suc from + 0 ≡ suc from = omega arith in
    let none : List A = [] in
    ap (λ (count : ℕ). take (suc from) none ++ [] ++ drop count none) same
over_none (item ∷ items) zero = refl
over_none (item ∷ items) (suc from) = over_past item items from [] ∙ ap (λ rest. item ∷ rest) (over_none items from)

pub over_whole : {A : Type 0} (items new : List A) → length new ≡ length items → over items 0 new ≡ new
over_whole [] [] same = refl
over_whole [] (one ∷ new) same = absurd (omega (arith, same))
over_whole (item ∷ items) [] same = absurd (omega (arith, same))
over_whole (item ∷ items) (one ∷ new) same = over_first item items one new ∙ ap (λ rest. one ∷ rest) (over_whole items new (omega (arith, same)))

pub over_length : {A : Type 0} (items : List A) (from : ℕ) (new : List A) → from + length new ≤ length items → length (over items from new) ≡ length items
over_length items from [] fits = ap length (over_none items from)
over_length [] zero (one ∷ new) fits = absurd (omega (arith, fits))
over_length (item ∷ items) zero (one ∷ new) fits = ap length (over_first item items one new) ∙ ap suc (over_length items 0 new (omega (arith, fits)))
over_length [] (suc from) (one ∷ new) fits = absurd (omega (arith, fits))
over_length (item ∷ items) (suc from) (one ∷ new) fits = ap length (over_past item items from (one ∷ new)) ∙ ap suc (over_length items from (one ∷ new) (omega (arith, fits)))

-- what stands before stays
pub over_before : {A : Type 0} (items : List A) (from : ℕ) (new : List A) (place : ℕ) → place < from → from ≤ length items → slice_get (over items from new) place ≡ slice_get items place
over_before items zero new place low fits = absurd (omega (arith, low))
over_before [] (suc from) new place low fits = absurd (omega (arith, fits))
over_before (item ∷ items) (suc from) new zero low fits = ap (λ held. slice_get held 0) (over_past item items from new)
over_before (item ∷ items) (suc from) new (suc place) low fits =
    ap (λ held. slice_get held (suc place)) (over_past item items from new) ∙ over_before items from new place (omega (arith, low)) (omega (arith, fits))

-- one item more is put before those that are there
pub over_set : {A : Type 0} (items : List A) (from : ℕ) (one : A) (new : List A) → from < length items → slice_set (over items (suc from) new) from one ≡ over items from (one ∷ new)
over_set [] from one new low = absurd (omega (arith, low))
over_set (item ∷ items) zero one new low = ap (λ held. slice_set held 0 one) (over_past item items 0 new) ∙ sym (over_first item items one new)
over_set (item ∷ items) (suc from) one new low =
    ap (λ held. slice_set held (suc from) one) (over_past item items (suc from) new)
    ∙ ap (λ rest. item ∷ rest) (over_set items from one new (omega (arith, low)))
    ∙ sym (over_past item items from (one ∷ new))

-- and those behind
pub over_over : {A : Type 0} (items : List A) (from : ℕ) (one other : List A) → from + length one ≤ length items
    → over (over items from one) (from + length one) other ≡ over items from (one ++ other)
over_over [] zero [] other fits = refl
over_over [] zero (new ∷ one) other fits = absurd (omega (arith, fits))
over_over [] (suc from) one other fits = absurd (omega (arith, fits))
over_over (item ∷ items) zero [] other fits = refl
over_over (item ∷ items) zero (new ∷ one) other fits =
    let same : 0 + suc (length one) ≡ suc (0 + length one) = omega arith in
    ap (λ held. over held (0 + suc (length one)) other) (over_first item items new one)
    ∙ ap (λ (count : ℕ). over (new ∷ over items 0 one) count other) same
    ∙ over_past new (over items 0 one) (0 + length one) other
    ∙ ap (λ rest. new ∷ rest) (over_over items 0 one other (omega (arith, fits)))
    ∙ sym (over_first item items new (one ++ other))
over_over (item ∷ items) (suc from) one other fits =
    let same : suc from + length one ≡ suc (from + length one) = omega arith in
    ap (λ held. over held (suc from + length one) other) (over_past item items from one)
    ∙ ap (λ (count : ℕ). over (item ∷ over items from one) count other) same
    ∙ over_past item (over items from one) (from + length one) other
    ∙ ap (λ rest. item ∷ rest) (over_over items from one other (omega (arith, fits)))
    ∙ sym (over_past item items from (one ++ other))
