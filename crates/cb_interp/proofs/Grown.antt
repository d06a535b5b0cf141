-- How many values more a shuffle leaves on the stack.
use Rattle.std.proofs.Common.{◌≡◌, ap, arith, refl, sym, subst, ℕ, ◌+◌, ◌≤◌, ◌-◌, List, [], ◌∷◌, length, Option, Some, None}
use Rattle.std.proofs.lemmas.Option.{same_Some}
use Rattle.std.specs.Option.{option_or}
use Rattle.cb_machine.specs.Values.{category_of_value, sort_of}
use Rattle.cb_plain.specs.declared.value.Value.{Value}
use Rattle.cb_plain.specs.declared.value.Value.TheVariants as values
use Rattle.cb_shapes.specs.Shuffles.{shuffled}
use Rattle.cb_shapes.specs.Sorts.{category_of}
use Rattle.cb_shapes.specs.declared.shuffle.Shuffle.{Shuffle}
use Rattle.cb_shapes.specs.declared.shuffle.Shuffle.TheVariants.{Pop, Pop2, Dup, DupX1, DupX2, Dup2, Dup2X1, Dup2X2, Swap}
use Rattle.cb_shapes.specs.declared.sort.Category.{Category}
use Rattle.cb_shapes.specs.declared.sort.Category.TheVariants.{One, Two}
use Rattle.cb_act.specs.Effects.{growth}
use Rattle.cb_act.proofs.Laws.{by_four, by_one, by_three, by_two}

-- by the category of what is on top
abbrev one_or_two : Category → ℕ
one_or_two One = 2
one_or_two Two = 1

abbrev more : Shuffle → Category → ℕ
more Dup first = 1
more DupX1 first = 1
more DupX2 first = 1
more Dup2 first = one_or_two first
more Dup2X1 first = one_or_two first
more Dup2X2 first = one_or_two first
more other first = 0

module _ {Item : Type 0} where
  so_long : (one after : List Item) (n : ℕ) → Some one ≡ Some after → n ≤ length one → n ≤ length after
  so_long one after n is low = omega (arith, ap (λ (items : List Item). length items) (same_Some one after is), low)

  grown_by : (one after : List Item) (count extra : ℕ) → Some one ≡ Some after → extra + count ≤ length one → extra ≤ length after - count
  grown_by one after count extra is low = omega (arith, so_long one after (extra + count) is low)

  by_one_grown : (shuffle : Shuffle) (c1 : Category) (a : Item) (rest after : List Item) → by_one shuffle (Some c1) a rest ≡ Some after → more shuffle c1 ≤ length after - length (a ∷ rest)
  by_one_grown Pop c1 a rest after is = omega arith
  by_one_grown Pop2 c1 a rest after is = omega arith
  by_one_grown Swap c1 a rest after is = omega arith
  by_one_grown Dup One a rest after is = grown_by (a ∷ a ∷ rest) after (length (a ∷ rest)) 1 is (omega arith)
  by_one_grown Dup Two a rest after is = absurd (cc is)
  by_one_grown Dup2 One a rest after is = absurd (cc is)
  by_one_grown Dup2 Two a rest after is = grown_by (a ∷ a ∷ rest) after (length (a ∷ rest)) 1 is (omega arith)
  by_one_grown DupX1 c1 a rest after is = absurd (cc is)
  by_one_grown DupX2 c1 a rest after is = absurd (cc is)
  by_one_grown Dup2X1 c1 a rest after is = absurd (cc is)
  by_one_grown Dup2X2 c1 a rest after is = absurd (cc is)

  by_two_grown : (shuffle : Shuffle) (c1 c2 : Category) (a b : Item) (rest after : List Item) → by_two shuffle (Some c1) (Some c2) a b rest ≡ Some after
      → more shuffle c1 ≤ length after - length (a ∷ b ∷ rest)
  by_two_grown Pop c1 c2 a b rest after is = omega arith
  by_two_grown Pop2 c1 c2 a b rest after is = omega arith
  by_two_grown Swap c1 c2 a b rest after is = omega arith
  by_two_grown Dup c1 c2 a b rest after is = absurd (cc is)
  by_two_grown DupX1 One One a b rest after is = grown_by (a ∷ b ∷ a ∷ rest) after (length (a ∷ b ∷ rest)) 1 is (omega arith)
  by_two_grown DupX1 One Two a b rest after is = absurd (cc is)
  by_two_grown DupX1 Two c2 a b rest after is = absurd (cc is)
  by_two_grown DupX2 One One a b rest after is = absurd (cc is)
  by_two_grown DupX2 One Two a b rest after is = grown_by (a ∷ b ∷ a ∷ rest) after (length (a ∷ b ∷ rest)) 1 is (omega arith)
  by_two_grown DupX2 Two c2 a b rest after is = absurd (cc is)
  by_two_grown Dup2 One One a b rest after is = grown_by (a ∷ b ∷ a ∷ b ∷ rest) after (length (a ∷ b ∷ rest)) 2 is (omega arith)
  by_two_grown Dup2 One Two a b rest after is = absurd (cc is)
  by_two_grown Dup2 Two c2 a b rest after is = absurd (cc is)
  by_two_grown Dup2X1 Two One a b rest after is = grown_by (a ∷ b ∷ a ∷ rest) after (length (a ∷ b ∷ rest)) 1 is (omega arith)
  by_two_grown Dup2X1 Two Two a b rest after is = absurd (cc is)
  by_two_grown Dup2X1 One c2 a b rest after is = absurd (cc is)
  by_two_grown Dup2X2 Two Two a b rest after is = grown_by (a ∷ b ∷ a ∷ rest) after (length (a ∷ b ∷ rest)) 1 is (omega arith)
  by_two_grown Dup2X2 Two One a b rest after is = absurd (cc is)
  by_two_grown Dup2X2 One c2 a b rest after is = absurd (cc is)

  by_three_grown : (shuffle : Shuffle) (c1 c2 c3 : Category) (a b c : Item) (rest after : List Item) → by_three shuffle (Some c1) (Some c2) (Some c3) a b c rest ≡ Some after
      → more shuffle c1 ≤ length after - length (a ∷ b ∷ c ∷ rest)
  by_three_grown Pop c1 c2 c3 a b c rest after is = omega arith
  by_three_grown Pop2 c1 c2 c3 a b c rest after is = omega arith
  by_three_grown Swap c1 c2 c3 a b c rest after is = omega arith
  by_three_grown Dup c1 c2 c3 a b c rest after is = absurd (cc is)
  by_three_grown DupX1 c1 c2 c3 a b c rest after is = absurd (cc is)
  by_three_grown Dup2 c1 c2 c3 a b c rest after is = absurd (cc is)
  by_three_grown DupX2 One One One a b c rest after is = grown_by (a ∷ b ∷ c ∷ a ∷ rest) after (length (a ∷ b ∷ c ∷ rest)) 1 is (omega arith)
  by_three_grown DupX2 One One Two a b c rest after is = absurd (cc is)
  by_three_grown DupX2 One Two c3 a b c rest after is = absurd (cc is)
  by_three_grown DupX2 Two c2 c3 a b c rest after is = absurd (cc is)
  by_three_grown Dup2X1 One One One a b c rest after is = grown_by (a ∷ b ∷ c ∷ a ∷ b ∷ rest) after (length (a ∷ b ∷ c ∷ rest)) 2 is (omega arith)
  by_three_grown Dup2X1 One One Two a b c rest after is = absurd (cc is)
  by_three_grown Dup2X1 One Two c3 a b c rest after is = absurd (cc is)
  by_three_grown Dup2X1 Two c2 c3 a b c rest after is = absurd (cc is)
  by_three_grown Dup2X2 One One Two a b c rest after is = grown_by (a ∷ b ∷ c ∷ a ∷ b ∷ rest) after (length (a ∷ b ∷ c ∷ rest)) 2 is (omega arith)
  by_three_grown Dup2X2 One One One a b c rest after is = absurd (cc is)
  by_three_grown Dup2X2 One Two c3 a b c rest after is = absurd (cc is)
  by_three_grown Dup2X2 Two One One a b c rest after is = grown_by (a ∷ b ∷ c ∷ a ∷ rest) after (length (a ∷ b ∷ c ∷ rest)) 1 is (omega arith)
  by_three_grown Dup2X2 Two One Two a b c rest after is = absurd (cc is)
  by_three_grown Dup2X2 Two Two c3 a b c rest after is = absurd (cc is)

  by_four_grown : (shuffle : Shuffle) (c1 c2 c3 c4 : Category) (a b c d : Item) (rest after : List Item)
      → by_four shuffle (Some c1) (Some c2) (Some c3) (Some c4) a b c d rest ≡ Some after → more shuffle c1 ≤ length after - length (a ∷ b ∷ c ∷ d ∷ rest)
  by_four_grown Pop c1 c2 c3 c4 a b c d rest after is = omega arith
  by_four_grown Pop2 c1 c2 c3 c4 a b c d rest after is = omega arith
  by_four_grown Swap c1 c2 c3 c4 a b c d rest after is = omega arith
  by_four_grown Dup c1 c2 c3 c4 a b c d rest after is = absurd (cc is)
  by_four_grown DupX1 c1 c2 c3 c4 a b c d rest after is = absurd (cc is)
  by_four_grown DupX2 c1 c2 c3 c4 a b c d rest after is = absurd (cc is)
  by_four_grown Dup2 c1 c2 c3 c4 a b c d rest after is = absurd (cc is)
  by_four_grown Dup2X1 c1 c2 c3 c4 a b c d rest after is = absurd (cc is)
  by_four_grown Dup2X2 One One One One a b c d rest after is = grown_by (a ∷ b ∷ c ∷ d ∷ a ∷ b ∷ rest) after (length (a ∷ b ∷ c ∷ d ∷ rest)) 2 is (omega arith)
  by_four_grown Dup2X2 One One One Two a b c d rest after is = absurd (cc is)
  by_four_grown Dup2X2 One One Two c4 a b c d rest after is = absurd (cc is)
  by_four_grown Dup2X2 One Two c3 c4 a b c d rest after is = absurd (cc is)
  by_four_grown Dup2X2 Two c2 c3 c4 a b c d rest after is = absurd (cc is)

  either : (P : Type 0) (one other : Option (List Item)) (after : List Item) → (one ≡ Some after → P) → (other ≡ Some after → P) → option_or one other ≡ Some after → P
  either P None other after first second is = second is
  either P (Some one) other after first second is = first is

  none : (P : Type 0) (after : List Item) → None ≡ Some after → P
  none P after is = absurd (cc is)

first_more : (shuffle : Shuffle) (a : Value) (rest : List Value) → growth shuffle (a ∷ rest) ≡ more shuffle (category_of (sort_of a))
first_more Pop a rest = refl
first_more Pop2 a rest = refl
first_more Swap a rest = refl
first_more Dup a rest = refl
first_more DupX1 a rest = refl
first_more DupX2 a rest = refl
first_more Dup2 (values.Int n) rest = refl
first_more Dup2 (values.Long n) rest = refl
first_more Dup2 (values.Ref n) rest = refl
first_more Dup2X1 (values.Int n) rest = refl
first_more Dup2X1 (values.Long n) rest = refl
first_more Dup2X1 (values.Ref n) rest = refl
first_more Dup2X2 (values.Int n) rest = refl
first_more Dup2X2 (values.Long n) rest = refl
first_more Dup2X2 (values.Ref n) rest = refl

abbrev Low : Shuffle → Value → List Value → List Value → Type 0
Low shuffle a after rest = more shuffle (category_of (sort_of a)) ≤ length after - length (a ∷ rest)

pub grown : (shuffle : Shuffle) (before after : List Value) → shuffled category_of_value shuffle before ≡ Some after → growth shuffle before ≤ length after - length before
grown shuffle [] after is = absurd (cc is)
grown shuffle (a ∷ rest) after is =
    subst (λ extra. extra ≤ length after - length (a ∷ rest)) (sym (first_more shuffle a rest)) (go rest is) where
      go : (rest : List Value) → shuffled category_of_value shuffle (a ∷ rest) ≡ Some after → Low shuffle a after rest
      go [] is = either (Low shuffle a after []) _ _ after (by_one_grown shuffle (category_of (sort_of a)) a [] after) (none (Low shuffle a after []) after) is
      go (b ∷ []) is =
          either (Low shuffle a after (b ∷ [])) _ _ after (by_one_grown shuffle (category_of (sort_of a)) a (b ∷ []) after)
          (either (Low shuffle a after (b ∷ [])) _ _ after (by_two_grown shuffle (category_of (sort_of a)) (category_of (sort_of b)) a b [] after) (none (Low shuffle a after (b ∷ [])) after)) is
      go (b ∷ c ∷ []) is =
          either (Low shuffle a after (b ∷ c ∷ [])) _ _ after (by_one_grown shuffle (category_of (sort_of a)) a (b ∷ c ∷ []) after)
          (either (Low shuffle a after (b ∷ c ∷ [])) _ _ after (by_two_grown shuffle (category_of (sort_of a)) (category_of (sort_of b)) a b (c ∷ []) after)
          (either (Low shuffle a after (b ∷ c ∷ [])) _ _ after (by_three_grown shuffle (category_of (sort_of a)) (category_of (sort_of b)) (category_of (sort_of c)) a b c [] after) (none (Low shuffle a after (b ∷ c ∷ [])) after))) is
      go (b ∷ c ∷ d ∷ rest) is =
          either (Low shuffle a after (b ∷ c ∷ d ∷ rest)) _ _ after (by_one_grown shuffle (category_of (sort_of a)) a (b ∷ c ∷ d ∷ rest) after)
          (either (Low shuffle a after (b ∷ c ∷ d ∷ rest)) _ _ after (by_two_grown shuffle (category_of (sort_of a)) (category_of (sort_of b)) a b (c ∷ d ∷ rest) after)
          (either (Low shuffle a after (b ∷ c ∷ d ∷ rest)) _ _ after (by_three_grown shuffle (category_of (sort_of a)) (category_of (sort_of b)) (category_of (sort_of c)) a b c (d ∷ rest) after)
          (by_four_grown shuffle (category_of (sort_of a)) (category_of (sort_of b)) (category_of (sort_of c)) (category_of (sort_of d)) a b c d rest after))) is
