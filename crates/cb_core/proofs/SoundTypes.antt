-- Tests of the descriptors of rows. A reader that nothing is known of gives the types of a descriptor, and a test whether
-- they spell it.
use Rattle.std.proofs.Common.{◌≡◌, refl, ℕ, ◌+◌, Bool, true, false, arith, ◌&&◌, List, [], ◌∷◌, ◌++◌, drop, map, fold, Option, Some, None, IfSome, is_none, if◌then◌else◌, nat_eq, nat_le}
use Rattle.std.specs.List.{list_all, concat, before_first, after_first}
use Rattle.std.specs.Str.{bytes_eq}
use Rattle.cb_names.specs.declared.base.BaseType.{BaseType}
use Rattle.cb_names.specs.declared.base.BaseType.TheVariants as base
use Rattle.cb_names.specs.Descriptors.{IsFieldDescriptor}
use Rattle.cb_names.specs.Signs.{semicolon, bracket, left_parenthesis, right_parenthesis, letter_byte, letter_char, letter_double, letter_float, letter_int, letter_long, letter_class, letter_short, letter_boolean}
use Rattle.cb_names.specs.Types.{Element, Primitive, Named, JavaType, JavaMethodType, IsElement, IsType, SpellsType, parameters_words, result_text, type_text}
use Rattle.cb_classfile.specs.Profile.{descriptor_item}
use Rattle.cb_core.specs.Sound.{IsShort, IsSoundFieldDescriptor, IsSoundMethodDescriptor}
use Rattle.cb_core.proofs.SoundTests.{both, each, none, one_text, within}
use Rattle.cb_core.proofs.SoundNames.{class_name, is_class_name, is_short, short}

-- what has been read: the types, and of the next one its brackets and the name of its class
record Reading : Type 0 where
  types : List JavaType
  dimensions : ℕ
  name : Option (List ℕ)

abbrev base_of : ℕ → Option BaseType
base_of unit =
    if nat_eq unit letter_byte then Some base.Byte
    else if nat_eq unit letter_char then Some base.Char
    else if nat_eq unit letter_double then Some base.Double
    else if nat_eq unit letter_float then Some base.Float
    else if nat_eq unit letter_int then Some base.Int
    else if nat_eq unit letter_long then Some base.Long
    else if nat_eq unit letter_short then Some base.Short
    else if nat_eq unit letter_boolean then Some base.Boolean
    else None

abbrev ended : Reading → Element → Reading
ended reading element = record {
  types = reading.types ++ record { dimensions = reading.dimensions; element = element } ∷ [];
  dimensions = 0;
  name = None;
}

abbrev named : Reading → ℕ → List ℕ → Reading
named reading unit name =
    if nat_eq unit semicolon then ended reading (Named name)
    else record { types = reading.types; dimensions = reading.dimensions; name = Some (name ++ unit ∷ []) }

abbrev based : Reading → Option BaseType → Reading
based reading None = reading
based reading (Some base) = ended reading (Primitive base)

abbrev begun : Reading → ℕ → Reading
begun reading unit =
    if nat_eq unit bracket then record { types = reading.types; dimensions = reading.dimensions + 1; name = None }
    else if nat_eq unit letter_class then record { types = reading.types; dimensions = reading.dimensions; name = Some [] }
    else based reading (base_of unit)

abbrev more_of : Reading → ℕ → Option (List ℕ) → Reading
more_of reading unit None = begun reading unit
more_of reading unit (Some name) = named reading unit name

abbrev types_in : List ℕ → List JavaType
types_in text = (fold (λ reading unit. more_of reading unit reading.name) (record { types = []; dimensions = 0; name = None }) text).types

abbrev first_type : List JavaType → Option JavaType
first_type [] = None
first_type (type ∷ types) = Some type

abbrev method_type_in : List ℕ → JavaMethodType
method_type_in text = record {
  parameters = types_in (before_first (λ unit. nat_eq unit right_parenthesis) (drop 1 text));
  result = first_type (types_in (after_first (λ unit. nat_eq unit right_parenthesis) text));
}

-- a type
abbrev is_element : Element → Bool
is_element (Primitive base) = true
is_element (Named name) = is_class_name name

element : (item : Element) → is_element item ≡ true → IsElement item
element (Primitive base) is = tt
element (Named name) is = class_name name is

abbrev is_type : JavaType → Bool
is_type type = nat_le type.dimensions 255 && is_element type.element

type_is : (type : JavaType) → is_type type ≡ true → IsType type
type_is type is = let two = both _ _ is in record { few = within _ _ two.0; element = element type.element two.1 }

abbrev spells : List ℕ → JavaType → Bool
spells text type = is_type type && bytes_eq text (type_text type)

spelled : (text : List ℕ) (type : JavaType) → spells text type ≡ true → SpellsType text type
spelled text type is = let two = both _ _ is in record { is = type_is type two.0; spelled = one_text _ _ two.1 }

abbrev spells_some : List ℕ → Option JavaType → Bool
spells_some text None = false
spells_some text (Some type) = spells text type

some_spelled : (text : List ℕ) (type : Option JavaType) → spells_some text type ≡ true → IsFieldDescriptor text
some_spelled text None is = absurd (grind (arith, is))
some_spelled text (Some type) is = (type, spelled text type is)

abbrev pub is_sound_field_descriptor : List ℕ → Bool
is_sound_field_descriptor text = spells_some text (first_type (types_in text)) && (is_none (descriptor_item text) && is_short text)

pub sound_field_descriptor : (text : List ℕ) → is_sound_field_descriptor text ≡ true → IsSoundFieldDescriptor text
sound_field_descriptor text is =
    let first = both _ _ is in
    let second = both _ _ first.1 in
    record { is = some_spelled text (first_type (types_in text)) first.0; supported = none _ second.0; short = short text second.1 }

-- the type of a method
abbrev is_result : Option JavaType → Bool
is_result None = true
is_result (Some type) = is_type type

result_is : (result : Option JavaType) → is_result result ≡ true → IfSome result IsType
result_is None is = tt
result_is (Some type) is = type_is type is

abbrev method_text : JavaMethodType → List ℕ
method_text type = left_parenthesis ∷ concat (map type_text type.parameters) ++ right_parenthesis ∷ result_text type.result

abbrev spells_method : List ℕ → JavaMethodType → Bool
spells_method text type =
    list_all is_type type.parameters && (is_result type.result && (nat_le (parameters_words type.parameters + 1) 255 && bytes_eq text (method_text type)))

abbrev pub is_sound_method_descriptor : List ℕ → Bool
is_sound_method_descriptor text = spells_method text (method_type_in text) && (is_none (descriptor_item text) && is_short text)

method_is : (text : List ℕ) (type : JavaMethodType) → spells_method text type ≡ true → descriptor_item text ≡ None → IsShort text → IsSoundMethodDescriptor text
method_is text type is supported short =
    let first = both _ _ is in
    let second = both _ _ first.1 in
    let third = both _ _ second.1 in
    let few = within _ _ third.0 in
    record {
      words = parameters_words type.parameters;
      is = record {
        type = type;
        spells = record {
          parameters = each is_type IsType type_is type.parameters first.0;
          result = result_is type.result second.0;
          few = omega (arith, few);
          spelled = one_text _ _ third.1;
        };
        counted = refl;
      };
      few = few;
      supported = supported;
      short = short;
    }

pub sound_method_descriptor : (text : List ℕ) → is_sound_method_descriptor text ≡ true → IsSoundMethodDescriptor text
sound_method_descriptor text is =
    let first = both _ _ is in
    let second = both _ _ first.1 in
    method_is text (method_type_in text) first.0 (none _ second.0) (short text second.1)
