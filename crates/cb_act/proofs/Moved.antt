-- Items that move on the stack may be mapped before or after.
use Rattle.std.proofs.Common.{◌≡◌, refl, List, [], ◌∷◌, map, Option, Some, None}
use Rattle.std.specs.Option.{option_or}
use Rattle.std.specs.Prelude.{option_map}
use Rattle.cb_shapes.specs.Shuffles.{shuffled}
use Rattle.cb_shapes.specs.declared.shuffle.Shuffle.{Shuffle}
use Rattle.cb_shapes.specs.declared.shuffle.Shuffle.TheVariants.{Pop, Pop2, Dup, DupX1, DupX2, Dup2, Dup2X1, Dup2X2, Swap}
use Rattle.cb_shapes.specs.declared.sort.Category.{Category}
use Rattle.cb_shapes.specs.declared.sort.Category.TheVariants.{One, Two}

-- the forms of shuffles, as their definition has them
module _ {Item : Type 0} where
  abbrev pub by_one : Shuffle → Option Category → Item → List Item → Option (List Item)
  by_one Pop (Some One) a rest = Some rest
  by_one Dup (Some One) a rest = Some (a ∷ a ∷ rest)
  by_one Pop2 (Some Two) a rest = Some rest
  by_one Dup2 (Some Two) a rest = Some (a ∷ a ∷ rest)
  by_one other found a rest = None

  abbrev pub by_two : Shuffle → Option Category → Option Category → Item → Item → List Item → Option (List Item)
  by_two Pop2 (Some One) (Some One) a b rest = Some rest
  by_two Dup2 (Some One) (Some One) a b rest = Some (a ∷ b ∷ a ∷ b ∷ rest)
  by_two Swap (Some One) (Some One) a b rest = Some (b ∷ a ∷ rest)
  by_two DupX1 (Some One) (Some One) a b rest = Some (a ∷ b ∷ a ∷ rest)
  by_two DupX2 (Some One) (Some Two) a b rest = Some (a ∷ b ∷ a ∷ rest)
  by_two Dup2X1 (Some Two) (Some One) a b rest = Some (a ∷ b ∷ a ∷ rest)
  by_two Dup2X2 (Some Two) (Some Two) a b rest = Some (a ∷ b ∷ a ∷ rest)
  by_two other one two a b rest = None

  abbrev pub by_three : Shuffle → Option Category → Option Category → Option Category → Item → Item → Item → List Item → Option (List Item)
  by_three DupX2 (Some One) (Some One) (Some One) a b c rest = Some (a ∷ b ∷ c ∷ a ∷ rest)
  by_three Dup2X1 (Some One) (Some One) (Some One) a b c rest = Some (a ∷ b ∷ c ∷ a ∷ b ∷ rest)
  by_three Dup2X2 (Some One) (Some One) (Some Two) a b c rest = Some (a ∷ b ∷ c ∷ a ∷ b ∷ rest)
  by_three Dup2X2 (Some Two) (Some One) (Some One) a b c rest = Some (a ∷ b ∷ c ∷ a ∷ rest)
  by_three other one two three a b c rest = None

  abbrev pub by_four : Shuffle → Option Category → Option Category → Option Category → Option Category → Item → Item → Item → Item → List Item → Option (List Item)
  by_four Dup2X2 (Some One) (Some One) (Some One) (Some One) a b c d rest = Some (a ∷ b ∷ c ∷ d ∷ a ∷ b ∷ rest)
  by_four other one two three four a b c d rest = None

-- each of them
module _ {Item Other : Type 0} (f : Item → Other) where
  by_one_mapped : (shuffle : Shuffle) (c1 : Category) (a : Item) (rest : List Item)
      → by_one shuffle (Some c1) (f a) (map f rest) ≡ option_map (map f) (by_one shuffle (Some c1) a rest)
  by_one_mapped Pop One a rest = refl
  by_one_mapped Pop Two a rest = refl
  by_one_mapped Pop2 One a rest = refl
  by_one_mapped Pop2 Two a rest = refl
  by_one_mapped Dup One a rest = refl
  by_one_mapped Dup Two a rest = refl
  by_one_mapped DupX1 c1 a rest = refl
  by_one_mapped DupX2 c1 a rest = refl
  by_one_mapped Dup2 One a rest = refl
  by_one_mapped Dup2 Two a rest = refl
  by_one_mapped Dup2X1 c1 a rest = refl
  by_one_mapped Dup2X2 c1 a rest = refl
  by_one_mapped Swap c1 a rest = refl

  by_two_mapped : (shuffle : Shuffle) (c1 c2 : Category) (a b : Item) (rest : List Item)
      → by_two shuffle (Some c1) (Some c2) (f a) (f b) (map f rest) ≡ option_map (map f) (by_two shuffle (Some c1) (Some c2) a b rest)
  by_two_mapped Pop c1 c2 a b rest = refl
  by_two_mapped Pop2 One One a b rest = refl
  by_two_mapped Pop2 One Two a b rest = refl
  by_two_mapped Pop2 Two c2 a b rest = refl
  by_two_mapped Dup c1 c2 a b rest = refl
  by_two_mapped DupX1 One One a b rest = refl
  by_two_mapped DupX1 One Two a b rest = refl
  by_two_mapped DupX1 Two c2 a b rest = refl
  by_two_mapped DupX2 One One a b rest = refl
  by_two_mapped DupX2 One Two a b rest = refl
  by_two_mapped DupX2 Two c2 a b rest = refl
  by_two_mapped Dup2 One One a b rest = refl
  by_two_mapped Dup2 One Two a b rest = refl
  by_two_mapped Dup2 Two c2 a b rest = refl
  by_two_mapped Dup2X1 One c2 a b rest = refl
  by_two_mapped Dup2X1 Two One a b rest = refl
  by_two_mapped Dup2X1 Two Two a b rest = refl
  by_two_mapped Dup2X2 One c2 a b rest = refl
  by_two_mapped Dup2X2 Two One a b rest = refl
  by_two_mapped Dup2X2 Two Two a b rest = refl
  by_two_mapped Swap One One a b rest = refl
  by_two_mapped Swap One Two a b rest = refl
  by_two_mapped Swap Two c2 a b rest = refl

  by_three_mapped : (shuffle : Shuffle) (c1 c2 c3 : Category) (a b c : Item) (rest : List Item)
      → by_three shuffle (Some c1) (Some c2) (Some c3) (f a) (f b) (f c) (map f rest) ≡ option_map (map f) (by_three shuffle (Some c1) (Some c2) (Some c3) a b c rest)
  by_three_mapped Pop c1 c2 c3 a b c rest = refl
  by_three_mapped Pop2 c1 c2 c3 a b c rest = refl
  by_three_mapped Dup c1 c2 c3 a b c rest = refl
  by_three_mapped DupX1 c1 c2 c3 a b c rest = refl
  by_three_mapped DupX2 One One One a b c rest = refl
  by_three_mapped DupX2 One One Two a b c rest = refl
  by_three_mapped DupX2 One Two c3 a b c rest = refl
  by_three_mapped DupX2 Two c2 c3 a b c rest = refl
  by_three_mapped Dup2 c1 c2 c3 a b c rest = refl
  by_three_mapped Dup2X1 One One One a b c rest = refl
  by_three_mapped Dup2X1 One One Two a b c rest = refl
  by_three_mapped Dup2X1 One Two c3 a b c rest = refl
  by_three_mapped Dup2X1 Two c2 c3 a b c rest = refl
  by_three_mapped Dup2X2 One One One a b c rest = refl
  by_three_mapped Dup2X2 One One Two a b c rest = refl
  by_three_mapped Dup2X2 One Two c3 a b c rest = refl
  by_three_mapped Dup2X2 Two One One a b c rest = refl
  by_three_mapped Dup2X2 Two One Two a b c rest = refl
  by_three_mapped Dup2X2 Two Two c3 a b c rest = refl
  by_three_mapped Swap c1 c2 c3 a b c rest = refl

  by_four_mapped : (shuffle : Shuffle) (c1 c2 c3 c4 : Category) (a b c d : Item) (rest : List Item)
      → by_four shuffle (Some c1) (Some c2) (Some c3) (Some c4) (f a) (f b) (f c) (f d) (map f rest) ≡ option_map (map f) (by_four shuffle (Some c1) (Some c2) (Some c3) (Some c4) a b c d rest)
  by_four_mapped Pop c1 c2 c3 c4 a b c d rest = refl
  by_four_mapped Pop2 c1 c2 c3 c4 a b c d rest = refl
  by_four_mapped Dup c1 c2 c3 c4 a b c d rest = refl
  by_four_mapped DupX1 c1 c2 c3 c4 a b c d rest = refl
  by_four_mapped DupX2 c1 c2 c3 c4 a b c d rest = refl
  by_four_mapped Dup2 c1 c2 c3 c4 a b c d rest = refl
  by_four_mapped Dup2X1 c1 c2 c3 c4 a b c d rest = refl
  by_four_mapped Dup2X2 One One One One a b c d rest = refl
  by_four_mapped Dup2X2 One One One Two a b c d rest = refl
  by_four_mapped Dup2X2 One One Two c4 a b c d rest = refl
  by_four_mapped Dup2X2 One Two c3 c4 a b c d rest = refl
  by_four_mapped Dup2X2 Two c2 c3 c4 a b c d rest = refl
  by_four_mapped Swap c1 c2 c3 c4 a b c d rest = refl

  or_mapped : (one other : Option (List Item)) (seen further : Option (List Other)) → seen ≡ option_map (map f) one → further ≡ option_map (map f) other
      → option_or seen further ≡ option_map (map f) (option_or one other)
  or_mapped None other seen further is so = rw is so
  or_mapped (Some one) other seen further is so = rw is refl

-- and all of them, where the category of what is mapped is that of what it is mapped from
pub shuffled_mapped : {Item Other : Type 0} (f : Item → Other) (category : Item → Category) (of : Other → Category) → ((item : Item) → of (f item) ≡ category item)
    → (shuffle : Shuffle) (stack : List Item)
    → shuffled (λ item. Some (of item)) shuffle (map f stack) ≡ option_map (map f) (shuffled (λ item. Some (category item)) shuffle stack)
shuffled_mapped f category of alike shuffle [] = refl
shuffled_mapped f category of alike shuffle (a ∷ []) = rw (alike a) (or_mapped f _ None _ None (by_one_mapped f shuffle (category a) a []) refl)
shuffled_mapped f category of alike shuffle (a ∷ b ∷ []) =
    rw (alike a, alike b)
    (or_mapped f _ _ _ _ (by_one_mapped f shuffle (category a) a (b ∷ [])) (or_mapped f _ None _ None (by_two_mapped f shuffle (category a) (category b) a b []) refl))
shuffled_mapped f category of alike shuffle (a ∷ b ∷ c ∷ []) =
    rw (alike a, alike b, alike c)
    (or_mapped f _ _ _ _ (by_one_mapped f shuffle (category a) a (b ∷ c ∷ []))
    (or_mapped f _ _ _ _ (by_two_mapped f shuffle (category a) (category b) a b (c ∷ []))
    (or_mapped f _ None _ None (by_three_mapped f shuffle (category a) (category b) (category c) a b c []) refl)))
shuffled_mapped f category of alike shuffle (a ∷ b ∷ c ∷ d ∷ rest) =
    rw (alike a, alike b, alike c, alike d)
    (or_mapped f _ _ _ _ (by_one_mapped f shuffle (category a) a (b ∷ c ∷ d ∷ rest))
    (or_mapped f _ _ _ _ (by_two_mapped f shuffle (category a) (category b) a b (c ∷ d ∷ rest))
    (or_mapped f _ _ _ _ (by_three_mapped f shuffle (category a) (category b) (category c) a b c (d ∷ rest))
    (by_four_mapped f shuffle (category a) (category b) (category c) (category d) a b c d rest))))
