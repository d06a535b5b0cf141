-- The first items of a list, taken one by one.
use Rattle.std.proofs.Common.{◌≡◌, ◌∙◌, ap, refl, sym, ℕ, zero, suc, List, [], ◌∷◌, ◌++◌, take, ◌+◌, ◌-◌, ◌<◌, ◌≤◌, arith}
use Rattle.std.proofs.lemmas.List.{append-nil, append_assoc}

none_of : {X : Type 0} (count : ℕ) → take {A = X} count [] ≡ []
none_of zero = refl
none_of (suc count) = refl

module _ {X : Type 0} (most count : ℕ) (found rest all : List X) (so : found ++ take (most - count) rest ≡ take most all) where
  -- where nothing is left
  pub none_left : rest ≡ [] → found ≡ take most all
  none_left none = sym (ap (λ rest. found ++ take (most - count) rest) none ∙ ap (λ rest. found ++ rest) (none_of (most - count)) ∙ append-nil found) ∙ so

  -- where there are enough
  pub enough : most ≤ count → found ≡ take most all
  enough many =
      let none : most - count ≡ 0 = omega arith in
      sym (ap (λ left. found ++ take left rest) none ∙ append-nil found) ∙ so

  -- one more
  pub one_more : count < most → (item : X) (more after : List X) → rest ≡ item ∷ more → after ≡ found ++ item ∷ []
      → after ++ take (most - (count + 1)) more ≡ take most all
  one_more few item more after is then =
      let left : most - count ≡ suc (most - (count + 1)) = omega arith in
      ap (λ after. after ++ take (most - (count + 1)) more) then ∙ append_assoc found (item ∷ []) (take (most - (count + 1)) more)
      ∙ sym (λ i. found ++ take (left i) (is i)) ∙ so
