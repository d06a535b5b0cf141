-- The instructions from dup to dup2_x2 by what they have in common (JVMS §6.5): each puts copies of the topmost values below others.
use Rattle.std.specs.Prelude.{ℕ, ◌+◌, Bool, true, false, List, [], ◌∷◌, ◌++◌, Option, Some, None, drop, option_and_then, option_map, take, ◌&&◌, if◌then◌else◌}
use Rattle.cb_shapes.specs.declared.sort.Category.{Category}
use Rattle.cb_shapes.specs.declared.sort.Category.TheVariants.{One, Two}
use Rattle.cb_verify.specs.declared.verification_type.VerificationType.{VerificationType}
use Rattle.cb_verify.specs.Types.{category}

-- the topmost value is of a category
abbrev pub is_category : Category → Option Category → Bool
is_category One (Some One) = true
is_category Two (Some Two) = true
is_category wanted other = false

abbrev pub begins_with : Category → List VerificationType → Bool
begins_with wanted [] = false
begins_with wanted (type ∷ types) = is_category wanted (category type)

-- how many of the topmost values take as many words as one of a category: two of category one stand for one of category two
abbrev pub two_of : List VerificationType → Option ℕ
two_of types = if begins_with One types && begins_with One (drop 1 types) then Some 2 else None

abbrev pub count_of : Category → List VerificationType → Option ℕ
count_of One types = if begins_with One types then Some 1 else None
count_of Two types = if begins_with Two types then Some 1 else two_of types

abbrev pub count_of_any : Option Category → List VerificationType → Option ℕ
count_of_any None types = Some 0
count_of_any (Some wanted) types = count_of wanted types

-- a stack without what is topmost, and with copies of so many values below others, which are under these
abbrev pub dropped : Category → List VerificationType → Option (List VerificationType)
dropped wanted stack = option_map (λ count. drop count stack) (count_of wanted stack)

abbrev pub inserted : ℕ → ℕ → List VerificationType → List VerificationType
inserted count depth stack = take depth stack ++ (take count stack ++ drop depth stack)

abbrev pub copied : Category → Option Category → List VerificationType → Option (List VerificationType)
copied wanted under stack =
    option_and_then (λ count. option_map (λ more. inserted count (count + more) stack) (count_of_any under (drop count stack))) (count_of wanted stack)

-- a stack whose two topmost values have changed places
abbrev pub swapped : List VerificationType → Option (List VerificationType)
swapped (one ∷ other ∷ rest) = if begins_with One (one ∷ []) && begins_with One (other ∷ []) then Some (other ∷ one ∷ rest) else None
swapped stack = None
