-- Parts of lists, where the lists are changed elsewhere or within.
use Rattle.std.proofs.Common.{◌≡◌, ◌∙◌, sym, refl, ap, arith, ℕ, zero, suc, ◌+◌, ◌-◌, ◌<◌, ◌≤◌, List, [], ◌∷◌, ◌++◌, length, drop, take, replicate, slice_range, slice_set}
use Rattle.std.proofs.lemmas.List.{drop-drop, drop-set-add, drop-set-lt, drop_at, length-take-le, take-set-le, take-take, take_at}
use Rattle.std.proofs.lemmas.Slice.{between_is}

module _ {X : Type 0} where
  -- parts of lists that begin in the same way
  pub same_front : (xs ys : List X) (end n : ℕ) → take end xs ≡ take end ys → n ≤ end → take n xs ≡ take n ys
  same_front xs ys end n same within = sym (take-take n end xs within) ∙ ap (take n) same ∙ take-take n end ys within

  pub same_part : (xs ys : List X) (end from to : ℕ) → take end xs ≡ take end ys → to ≤ end → slice_range xs from to ≡ slice_range ys from to
  same_part xs ys end from to same within = between_is xs from to ∙ ap (drop from) (same_front xs ys end to same within) ∙ sym (between_is ys from to)

  -- parts next to each other
  pub taken_of_none : (n : ℕ) → take n (let none : List X = [] in none) ≡ []
  taken_of_none zero = refl
  taken_of_none (suc n) = refl

  pub take_sum : (m n : ℕ) (ys : List X) → take (m + n) ys ≡ take m ys ++ take n (drop m ys)
  take_sum zero n ys = ap (λ k. take k ys) (let e : 0 + n ≡ n = omega arith in e)
  take_sum (suc m) n [] = taken_of_none (suc m + n) ∙ sym (taken_of_none n)
  take_sum (suc m) n (y ∷ ys) = ap (λ k. take k (y ∷ ys)) (let e : suc m + n ≡ suc (m + n) = omega arith in e) ∙ ap (λ rest. y ∷ rest) (take_sum m n ys)

  pub joined_parts : (xs : List X) (from middle to : ℕ) → from ≤ middle → middle ≤ to → slice_range xs from middle ++ slice_range xs middle to ≡ slice_range xs from to
  joined_parts xs from middle to low high =
      let at : middle ≡ from + (middle - from) = omega arith in
      let size : to - from ≡ (middle - from) + (to - middle) = omega arith in
      ap (λ k. slice_range xs from middle ++ take (to - middle) (drop k xs)) at
      ∙ ap (λ rest. slice_range xs from middle ++ take (to - middle) rest) (sym (drop-drop (middle - from) from xs))
      ∙ sym (take_sum (middle - from) (to - middle) (drop from xs))
      ∙ ap (λ k. take k (drop from xs)) (sym size)

  -- parts with an item changed
  pub part_set_above : (xs : List X) (from to i : ℕ) (item : X) → to ≤ i → slice_range (slice_set xs i item) from to ≡ slice_range xs from to
  part_set_above xs from to i item above = same_part (slice_set xs i item) xs to from to (take-set-le to xs i item above) (omega arith)

  pub part_set_below : (xs : List X) (from to i : ℕ) (item : X) → i < from → slice_range (slice_set xs i item) from to ≡ slice_range xs from to
  part_set_below xs from to i item below = ap (take (to - from)) (drop-set-lt from xs i item below)

  pub take_set : (xs : List X) (count i : ℕ) (item : X) → i < count → take count (slice_set xs i item) ≡ slice_set (take count xs) i item
  take_set [] zero i item below = refl
  take_set [] (suc count) i item below = refl
  take_set (x ∷ xs) zero i item below = absurd (omega (arith, below))
  take_set (x ∷ xs) (suc count) zero item below = refl
  take_set (x ∷ xs) (suc count) (suc i) item below = ap (λ rest. x ∷ rest) (take_set xs count i item (omega (arith, below)))

  pub part_set_within : (xs : List X) (from to i : ℕ) (item : X) → from + i < to → slice_range (slice_set xs (from + i) item) from to ≡ slice_set (slice_range xs from to) i item
  part_set_within xs from to i item within = ap (take (to - from)) (drop-set-add from xs i item) ∙ take_set (drop from xs) (to - from) i item (omega arith)

  -- what is behind the items that a list begins with
  pub dropped_behind : (xs ys : List X) (n : ℕ) → length xs ≤ n → drop n (xs ++ ys) ≡ drop (n - length xs) ys
  dropped_behind [] ys n past = ap (λ k. drop k ys) (let e : n ≡ n - 0 = omega arith in e)
  dropped_behind (x ∷ xs) ys zero past = absurd (omega (arith, past))
  dropped_behind (x ∷ xs) ys (suc n) past =
      let less : suc n - suc (length xs) ≡ n - length xs = omega arith in
      dropped_behind xs ys n (omega (arith, past)) ∙ ap (λ k. drop k ys) (sym less)

  -- lists with a part that is filled
  module _ (xs : List X) (from to : ℕ) (item : X) (order : from ≤ to) (inside : to ≤ length xs) where
    pub filled_front : take from (take from xs ++ (replicate (to - from) item ++ drop to xs)) ≡ take from xs
    filled_front = take_at (take from xs) (replicate (to - from) item ++ drop to xs) from (length-take-le from xs (omega arith))

    pub filled_rest : drop from (take from xs ++ (replicate (to - from) item ++ drop to xs)) ≡ replicate (to - from) item ++ drop to xs
    filled_rest = drop_at (take from xs) (replicate (to - from) item ++ drop to xs) from (length-take-le from xs (omega arith))
