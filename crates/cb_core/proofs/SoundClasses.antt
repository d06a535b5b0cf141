-- Tests of the members of rows, and of rows.
use Rattle.std.proofs.Common.{◌≡◌, ap, refl, arith, ℕ, ◌^◌, Bool, true, false, ◌&&◌, ◌||◌, not, List, [], ◌∷◌, map, bit_and, Option, Some, None, IfSome, codes, nat_eq, nat_lt}
use Rattle.std.specs.List.{list_all}
use Rattle.std.specs.Str.{bytes_eq}
use Rattle.std.proofs.lemmas.Bool.Decides.{nat_tests}
use Rattle.cb_library.specs.Rows.{CoreClass, Field, Kind, Method, Abstract, Performed, Runs}
use Rattle.cb_classfile.specs.Class.{object}
use Rattle.cb_classfile.specs.Flags.{acc_static, acc_native, acc_interface, acc_abstract, acc_synchronized, HasFlag}
use Rattle.cb_core.specs.Sound.{IsSound, IsSoundClassName, IsSoundField, IsSoundInterface, IsSoundKind, IsSoundMethod, class_room}
use Rattle.cb_core.proofs.SoundTests.{below, both, differ, distinct, each, equal, itself, one_text, other_text, then, unequal}
use Rattle.cb_core.proofs.SoundNames.{is_sound_class_name, is_sound_field_name, is_sound_method_name, sound_class_name, sound_field_name, sound_method_name}
use Rattle.cb_core.proofs.SoundTypes.{is_sound_field_descriptor, is_sound_method_descriptor, sound_field_descriptor, sound_method_descriptor}
use Rattle.cb_core.proofs.SoundBodies.{is_sound_body, sound_body}

-- whether flags have one
abbrev has : ℕ → ℕ → Bool
has flags flag = nat_eq (bit_and flags flag) flag

-- what a method is
abbrev is_sound_kind : ℕ → List ℕ → Kind → Bool
is_sound_kind flags name Abstract =
    has flags acc_abstract && (not (has flags acc_native) && (not (has flags acc_static) && not (bytes_eq name (codes "<init>"))))
is_sound_kind flags name (Performed native) = has flags acc_native && not (has flags acc_abstract)
is_sound_kind flags name (Runs body) = not (has flags acc_abstract) && (not (has flags acc_native) && is_sound_body body)

kind : (flags : ℕ) (name : List ℕ) (item : Kind) → is_sound_kind flags name item ≡ true → IsSoundKind flags name item
kind flags name Abstract is =
    let first = both _ _ is in
    let second = both _ _ first.1 in
    let third = both _ _ second.1 in
    (equal _ _ first.0, unequal _ _ second.0, unequal _ _ third.0, other_text _ _ third.1)
kind flags name (Performed native) is = let two = both _ _ is in (equal _ _ two.0, unequal _ _ two.1)
kind flags name (Runs body) is =
    let first = both _ _ is in
    let second = both _ _ first.1 in
    (unequal _ _ first.0, unequal _ _ second.0, sound_body body second.1)

-- a method
abbrev is_sound_method : Method → Bool
is_sound_method method =
    nat_lt method.flags (2 ^ 16)
    && (not (has method.flags acc_synchronized)
    && (is_sound_method_name method.name
    && (not (bytes_eq method.name (codes "finalize"))
    && (is_sound_method_descriptor method.descriptor
    && is_sound_kind method.flags method.name method.kind))))

method_is : (method : Method) → is_sound_method method ≡ true → IsSoundMethod method
method_is method is =
    let first = both _ _ is in
    let second = both _ _ first.1 in
    let third = both _ _ second.1 in
    let fourth = both _ _ third.1 in
    let fifth = both _ _ fourth.1 in
    record {
      flags = below _ _ first.0;
      unsynchronized = unequal _ _ second.0;
      name = sound_method_name method.name third.0;
      no_finalizer = other_text _ _ fourth.0;
      descriptor = sound_method_descriptor method.descriptor fifth.0;
      kind = kind method.flags method.name method.kind fifth.1;
    }

-- a field
abbrev is_sound_field : Field → Bool
is_sound_field field = nat_lt field.flags (2 ^ 16) && (is_sound_field_name field.name && is_sound_field_descriptor field.descriptor)

field_is : (field : Field) → is_sound_field field ≡ true → IsSoundField field
field_is field is =
    let first = both _ _ is in
    let second = both _ _ first.1 in
    record { flags = below _ _ first.0; name = sound_field_name field.name second.0; descriptor = sound_field_descriptor field.descriptor second.1 }

-- a name and a descriptor are those of another
abbrev alike : List ℕ × List ℕ → List ℕ × List ℕ → Bool
alike one other = bytes_eq one.0 other.0 && bytes_eq one.1 other.1

joined : (one other : Bool) → one ≡ true → other ≡ true → (one && other) ≡ true
joined true other is are = are
joined false other is are = absurd (grind (arith, is))

alike_itself : (one : List ℕ × List ℕ) → alike one one ≡ true
alike_itself one = joined _ _ (itself one.0) (itself one.1)

-- the superclass, and that it is there or not
abbrev is_sound_superclass : List ℕ → Option (List ℕ) → Bool
is_sound_superclass name None = bytes_eq name object
is_sound_superclass name (Some superclass) = not (bytes_eq name object) && is_sound_class_name superclass

superclass : (name : List ℕ) (item : Option (List ℕ)) → is_sound_superclass name item ≡ true → IfSome item IsSoundClassName
superclass name None is = tt
superclass name (Some item) is = sound_class_name item (both _ _ is).1

root : (name : List ℕ) (item : Option (List ℕ)) → is_sound_superclass name item ≡ true → item ≡ None → name ≡ object
root name None is no_item = one_text _ _ is
root name (Some item) is no_item = absurd (cc)

no_root : (name : List ℕ) (item : Option (List ℕ)) → is_sound_superclass name item ≡ true → name ≡ object → item ≡ None
no_root name None is same = refl
no_root name (Some item) is same = absurd (other_text _ _ (both _ _ is).0 same)

-- an interface
abbrev is_object : Option (List ℕ) → Bool
is_object None = false
is_object (Some name) = bytes_eq name object

object_is : (item : Option (List ℕ)) → is_object item ≡ true → item ≡ Some object
object_is None is = absurd (grind (arith, is))
object_is (Some name) is = ap Some (one_text _ _ is)

abbrev is_empty : List Field → Bool
is_empty [] = true
is_empty (field ∷ fields) = false

empty : (fields : List Field) → is_empty fields ≡ true → fields ≡ []
empty [] is = refl
empty (field ∷ fields) is = absurd (grind (arith, is))

abbrev is_sound_interface : CoreClass → Bool
is_sound_interface row = has row.flags acc_abstract && (is_object row.superclass && is_empty row.fields)

interface : (row : CoreClass) → is_sound_interface row ≡ true → IsSoundInterface row
interface row is =
    let first = both _ _ is in
    let second = both _ _ first.1 in
    record { abstract_class = equal _ _ first.0; superclass = object_is row.superclass second.0; fields = empty row.fields second.1 }

as_interface : (row : CoreClass) → (not (has row.flags acc_interface) || is_sound_interface row) ≡ true → HasFlag row.flags acc_interface → IsSoundInterface row
as_interface row is flag = interface row (then (has row.flags acc_interface) (is_sound_interface row) is (grind (arith, nat_tests, flag)))

-- a row
abbrev fields_of : CoreClass → List (List ℕ × List ℕ)
fields_of row = map (λ field. (field.name, field.descriptor)) row.fields

abbrev methods_of : CoreClass → List (List ℕ × List ℕ)
methods_of row = map (λ method. (method.name, method.descriptor)) row.methods

abbrev pub is_sound : CoreClass → Bool
is_sound row =
    nat_lt row.flags (2 ^ 16)
    && (is_sound_class_name row.name
    && (is_sound_superclass row.name row.superclass
    && (list_all is_sound_class_name row.interfaces
    && ((not (has row.flags acc_interface) || is_sound_interface row)
    && (list_all is_sound_field row.fields
    && (list_all is_sound_method row.methods
    && (distinct alike (fields_of row)
    && (distinct alike (methods_of row)
    && nat_lt (class_room row) 65000))))))))

pub sound : (row : CoreClass) → is_sound row ≡ true → IsSound row
sound row is =
    let first = both _ _ is in
    let second = both _ _ first.1 in
    let third = both _ _ second.1 in
    let fourth = both _ _ third.1 in
    let fifth = both _ _ fourth.1 in
    let sixth = both _ _ fifth.1 in
    let seventh = both _ _ sixth.1 in
    let eighth = both _ _ seventh.1 in
    let ninth = both _ _ eighth.1 in
    record {
      flags = below _ _ first.0;
      name = sound_class_name row.name second.0;
      superclass = superclass row.name row.superclass third.0;
      root = root row.name row.superclass third.0;
      no_root = no_root row.name row.superclass third.0;
      interfaces = each is_sound_class_name IsSoundClassName sound_class_name row.interfaces fourth.0;
      as_interface = as_interface row fifth.0;
      fields = each is_sound_field IsSoundField field_is row.fields sixth.0;
      methods = each is_sound_method IsSoundMethod method_is row.methods seventh.0;
      fields_differ = differ alike alike_itself (fields_of row) eighth.0;
      methods_differ = differ alike alike_itself (methods_of row) ninth.0;
      room = below _ _ ninth.1;
    }
