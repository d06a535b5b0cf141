-- The kinds of the objects of a state: all that typing asks of a heap.
use Rattle.std.specs.Prelude.{◌≡◌, ℕ, ℤ, zero, suc, Bool, true, false, List, [], ◌∷◌, length, Option, Some, None, map, option_map, slice_get, nat_lt, ◌==◌, ◌||◌, ◌&&◌, if◌then◌else◌}
use Rattle.std.specs.List.{AllByRecursion}
use Rattle.cb_classfile.specs.declared.class.ClassFile.{ClassFile}
use Rattle.cb_kinds.specs.Kinds.{name_in}
use Rattle.cb_link.specs.Program.{Linked}
use Rattle.cb_link.specs.Subtypes.{is_above_arrays, is_instance, names_interface, type_of_kind}
use Rattle.cb_names.specs.Signs.{bracket, letter_class}
use Rattle.cb_plain.specs.State.{Object}
use Rattle.cb_plain.specs.declared.value.Value.{Value}
use Rattle.cb_plain.specs.declared.value.Value.TheVariants as values

-- the kind of the object of each serial, from 1 on
abbrev pub Kinds : Type 0
Kinds = List (Option ℕ)

abbrev pub kinds_of : List (Option Object) → Kinds
kinds_of objects = map (option_map (λ object. object.kind)) objects

abbrev pub known : Option (Option ℕ) → Option ℕ
known None = None
known (Some entry) = entry

abbrev pub kind_in : Kinds → ℕ → Option ℕ
kind_in kinds zero = None
kind_in kinds (suc place) = known (slice_get kinds place)

-- an object of a type may be held as another type: an interface takes every object, since the verifier counts it as Object (JVMS
-- §4.10.1.2), and so in arrays; else as for instanceof
abbrev pub is_held_as : List ClassFile → List ℕ → List ℕ → Bool
is_held_as classes [] other = false
is_held_as classes (unit ∷ rest) [] = false
is_held_as classes (unit ∷ rest) (other ∷ others) =
    if other == bracket then unit == bracket && is_held_as classes rest others
    else if other == letter_class then
    (if names_interface classes (name_in others) then unit == bracket || unit == letter_class
    else if unit == bracket then is_above_arrays (name_in others)
    else unit == letter_class && is_instance classes (name_in rest) (name_in others))
    else unit == other

abbrev pub holds_kind : Linked → ℕ → ℕ → Bool
holds_kind program own kind =
    nat_lt own (length program.kinds) && nat_lt kind (length program.kinds) && is_held_as program.classes (type_of_kind program own) (type_of_kind program kind)

-- an object of a kind is one of another kind too, where it may be held as that
pub record IsOfKind (program : Linked) (kinds : Kinds) (kind serial : ℕ) : Type 0 where
  pub own : ℕ
  pub there : kind_in kinds serial ≡ Some own
  pub goes : holds_kind program own kind ≡ true

-- a reference is null, or names such an object
pub data Refers (program : Linked) (kinds : Kinds) (kind : ℕ) : ℕ → Type 0 where
  ToNull : Refers program kinds kind 0
  To : (serial : ℕ) → IsOfKind program kinds kind serial → Refers program kinds kind serial

-- a value is known where it is no reference, null, or the serial of an object
pub data IsKnown (kinds : Kinds) : Value → Type 0 where
  AnInt : (number : ℤ) → IsKnown kinds (values.Int number)
  ALong : (number : ℤ) → IsKnown kinds (values.Long number)
  Null : IsKnown kinds (values.Ref 0)
  AnObject : (serial own : ℕ) → kind_in kinds serial ≡ Some own → IsKnown kinds (values.Ref serial)

abbrev pub AreKnown : Kinds → List Value → Type 0
AreKnown kinds held = AllByRecursion (IsKnown kinds) held
