-- What the instructions from pop to swap move on the operand stack, by the categories of what stands there (JVMS §6.5, §2.11.1).
use Rattle.std.specs.Prelude.{List, ◌∷◌, Option, Some, None}
use Rattle.std.specs.Option.{option_or}
use Rattle.cb_shapes.specs.declared.shuffle.Shuffle.{Shuffle}
use Rattle.cb_shapes.specs.declared.shuffle.Shuffle.TheVariants.{Pop, Pop2, Dup, DupX1, DupX2, Dup2, Dup2X1, Dup2X2, Swap}
use Rattle.cb_shapes.specs.declared.sort.Category.{Category}
use Rattle.cb_shapes.specs.declared.sort.Category.TheVariants.{One, Two}

-- over any items, the topmost first, of which some may have no category and can't be moved. Each line is a form of the standard's,
-- by how many items it moves
module _ {Item : Type 0} (category : Item → Option Category) where
  abbrev by_one : Shuffle → Option Category → Item → List Item → Option (List Item)
  by_one Pop (Some One) a rest = Some rest
  by_one Dup (Some One) a rest = Some (a ∷ a ∷ rest)
  by_one Pop2 (Some Two) a rest = Some rest
  by_one Dup2 (Some Two) a rest = Some (a ∷ a ∷ rest)
  by_one other found a rest = None

  abbrev by_two : Shuffle → Option Category → Option Category → Item → Item → List Item → Option (List Item)
  by_two Pop2 (Some One) (Some One) a b rest = Some rest
  by_two Dup2 (Some One) (Some One) a b rest = Some (a ∷ b ∷ a ∷ b ∷ rest)
  by_two Swap (Some One) (Some One) a b rest = Some (b ∷ a ∷ rest)
  by_two DupX1 (Some One) (Some One) a b rest = Some (a ∷ b ∷ a ∷ rest)
  by_two DupX2 (Some One) (Some Two) a b rest = Some (a ∷ b ∷ a ∷ rest)
  by_two Dup2X1 (Some Two) (Some One) a b rest = Some (a ∷ b ∷ a ∷ rest)
  by_two Dup2X2 (Some Two) (Some Two) a b rest = Some (a ∷ b ∷ a ∷ rest)
  by_two other one two a b rest = None

  abbrev by_three : Shuffle → Option Category → Option Category → Option Category → Item → Item → Item → List Item → Option (List Item)
  by_three DupX2 (Some One) (Some One) (Some One) a b c rest = Some (a ∷ b ∷ c ∷ a ∷ rest)
  by_three Dup2X1 (Some One) (Some One) (Some One) a b c rest = Some (a ∷ b ∷ c ∷ a ∷ b ∷ rest)
  by_three Dup2X2 (Some One) (Some One) (Some Two) a b c rest = Some (a ∷ b ∷ c ∷ a ∷ b ∷ rest)
  by_three Dup2X2 (Some Two) (Some One) (Some One) a b c rest = Some (a ∷ b ∷ c ∷ a ∷ rest)
  by_three other one two three a b c rest = None

  abbrev by_four : Shuffle → Option Category → Option Category → Option Category → Option Category → Item → Item → Item → Item → List Item → Option (List Item)
  by_four Dup2X2 (Some One) (Some One) (Some One) (Some One) a b c d rest = Some (a ∷ b ∷ c ∷ d ∷ a ∷ b ∷ rest)
  by_four other one two three four a b c d rest = None

  abbrev of_one : Shuffle → List Item → Option (List Item)
  of_one shuffle (a ∷ rest) = by_one shuffle (category a) a rest
  of_one shuffle other = None

  abbrev of_two : Shuffle → List Item → Option (List Item)
  of_two shuffle (a ∷ b ∷ rest) = by_two shuffle (category a) (category b) a b rest
  of_two shuffle other = None

  abbrev of_three : Shuffle → List Item → Option (List Item)
  of_three shuffle (a ∷ b ∷ c ∷ rest) = by_three shuffle (category a) (category b) (category c) a b c rest
  of_three shuffle other = None

  abbrev of_four : Shuffle → List Item → Option (List Item)
  of_four shuffle (a ∷ b ∷ c ∷ d ∷ rest) = by_four shuffle (category a) (category b) (category c) (category d) a b c d rest
  of_four shuffle other = None

  abbrev pub shuffled : Shuffle → List Item → Option (List Item)
  shuffled shuffle stack =
      option_or (of_one shuffle stack) (option_or (of_two shuffle stack) (option_or (of_three shuffle stack) (of_four shuffle stack)))
