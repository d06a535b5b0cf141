-- Verification types, and which is assignable to which (JVMS §4.10.1.2).
use Rattle.std.specs.Prelude.{ℕ, Bool, true, false, Option, Some, None, length, nat_lt, ◌==◌, ◌&&◌}
use Rattle.cb_kinds.specs.declared.basic.Basic.{Basic}
use Rattle.cb_kinds.specs.declared.basic.Basic.TheVariants as basics
use Rattle.cb_link.specs.Program.{Linked}
use Rattle.cb_link.specs.Subtypes.{assignable}
use Rattle.cb_shapes.specs.declared.sort.Category.{Category}
use Rattle.cb_shapes.specs.declared.sort.Category.TheVariants.{One, Two}
use Rattle.cb_shapes.specs.declared.sort.Sort.{Sort}
use Rattle.cb_shapes.specs.declared.sort.Sort.TheVariants as sorts
use Rattle.cb_verify.specs.declared.verification_type.VerificationType.{VerificationType}
use Rattle.cb_verify.specs.declared.verification_type.VerificationType.TheVariants.{Top, Int, Long, Null, This, Object, New}

-- the type of a value by what it is in a descriptor: an int for what is narrower too
abbrev pub type_of : Basic → VerificationType
type_of (basics.Reference kind) = Object kind
type_of basics.Long = Long
type_of other = Int

abbrev pub sort_of_basic : Basic → Sort
sort_of_basic (basics.Reference kind) = sorts.Reference
sort_of_basic basics.Long = sorts.Long
sort_of_basic other = sorts.Int

-- the type of a number of a sort
abbrev pub number_type : Sort → VerificationType
number_type sorts.Long = Long
number_type other = Int

-- a value of a type is of a sort: references are the types below `reference` in the standard's figure, uninitialised objects
-- among them
abbrev pub is_of : Sort → VerificationType → Bool
is_of sorts.Int Int = true
is_of sorts.Long Long = true
is_of sorts.Reference Null = true
is_of sorts.Reference This = true
is_of sorts.Reference (Object kind) = true
is_of sorts.Reference (New place) = true
is_of sort other = false

-- null or an object that is initialised: what is assignable to java/lang/Object
abbrev pub is_initialised : VerificationType → Bool
is_initialised Null = true
is_initialised (Object kind) = true
is_initialised other = false

-- nothing can be moved of a value of which nothing is known
abbrev pub category : VerificationType → Option Category
category Top = None
category Long = Some Two
category other = Some One

-- how many words of the operand stack a value takes
abbrev pub words : VerificationType → ℕ
words Long = 2
words other = 1

-- a kind that is there is assignable to another as JVMS §4.10.1.2 says of classes and arrays
abbrev pub kind_goes_to : Linked → ℕ → ℕ → Bool
kind_goes_to program kind other =
    nat_lt kind (length program.kinds) && nat_lt other (length program.kinds) && assignable program kind other

-- a type is assignable to another: to itself, to top, null to each kind, and a kind to another
abbrev pub goes_to : Linked → VerificationType → VerificationType → Bool
goes_to program type Top = true
goes_to program Int Int = true
goes_to program Long Long = true
goes_to program Null Null = true
goes_to program Null (Object kind) = true
goes_to program This This = true
goes_to program (Object kind) (Object other) = kind_goes_to program kind other
goes_to program (New place) (New other) = place == other
goes_to program type other = false
