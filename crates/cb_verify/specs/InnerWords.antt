-- The values on a stack, of which a word is compared with a word: inside the crate.
use Rattle.std.specs.Prelude.{ℕ, Bool, true, false, List, [], ◌∷◌, drop, Option, Some, None, ◌&&◌, if◌then◌else◌}
use Rattle.cb_link.specs.Program.{Linked}
use Rattle.cb_shapes.specs.declared.sort.Sort.TheVariants as sorts
use Rattle.cb_verify.specs.declared.verification_type.VerificationType.{VerificationType}
use Rattle.cb_verify.specs.declared.verification_type.VerificationType.TheVariants.{Top}
use Rattle.cb_verify.specs.Frames.{stack_goes_to}
use Rattle.cb_verify.specs.Types.{goes_to, is_of}

-- how many of the values on a stack the topmost value of another is assignable to, word by word: a long to a long, or to two values of
-- which nothing is known, and any other to one value
abbrev pub is_top : VerificationType → Bool
is_top Top = true
is_top type = false

abbrev pub begins_with_top : List VerificationType → Bool
begins_with_top [] = false
begins_with_top (other ∷ others) = is_top other

abbrev pub taken_by_long : List VerificationType → Option ℕ
taken_by_long [] = None
taken_by_long (other ∷ others) =
    if is_of sorts.Long other then Some 1 else if is_top other && begins_with_top others then Some 2 else None

abbrev pub taken_by_one : Linked → VerificationType → List VerificationType → Option ℕ
taken_by_one program type [] = None
taken_by_one program type (other ∷ others) = if goes_to program type other then Some 1 else None

abbrev pub taken_by : Linked → VerificationType → List VerificationType → Option ℕ
taken_by program type others = if is_of sorts.Long type then taken_by_long others else taken_by_one program type others

-- and then the rest to the rest
abbrev pub rest_goes_to : Linked → List VerificationType → List VerificationType → Option ℕ → Bool
rest_goes_to program stack others None = false
rest_goes_to program stack others (Some count) = stack_goes_to program stack (drop count others)
