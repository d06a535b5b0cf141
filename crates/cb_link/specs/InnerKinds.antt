-- What the table of kinds keeps of each, which no public clause cites.
use Rattle.std.specs.Prelude.{ℕ, Bool, false, List, [], ◌∷◌, map, drop, nat_lt, Option, Some, None, ◌==◌, ◌||◌, ◌&&◌, if◌then◌else◌}
use Rattle.std.specs.List.{prefix_len}
use Rattle.cb_classfile.specs.declared.class.ClassFile.{ClassFile}
use Rattle.cb_kinds.specs.Basics.{component_of, kind_number}
use Rattle.cb_kinds.specs.Kinds.{name_in, type_of_name}
use Rattle.cb_names.specs.Signs.{bracket, letter_class}
use Rattle.cb_link.specs.declared.kind_row.Inner.{Inner}
use Rattle.cb_link.specs.declared.kind_row.KindRow.{KindRow}
use Rattle.cb_link.specs.Numbers.{class_number}
use Rattle.cb_link.specs.Subtypes.{between, is_above_arrays, is_object, names_interface}

-- how many dimensions a type has, and what stands behind their brackets: a letter, and the name of a class
abbrev pub dimensions : List ℕ → ℕ
dimensions type = prefix_len (λ unit. unit == bracket) type

abbrev pub first_unit : List ℕ → Option ℕ
first_unit [] = None
first_unit (unit ∷ rest) = Some unit

abbrev pub rest_of : List ℕ → List ℕ
rest_of [] = []
rest_of (unit ∷ rest) = rest

abbrev pub letter_of : List ℕ → Option ℕ
letter_of type = first_unit (drop (dimensions type) type)

abbrev pub class_in : List ℕ → List ℕ
class_in type = name_in (rest_of (drop (dimensions type) type))

-- of the name of a kind
abbrev pub inner_name : List ℕ → List ℕ
inner_name name = class_in (type_of_name name)

-- what is kept of such a name, by those of all kinds
abbrev pub inner_of : List ClassFile → List (List ℕ) → List ℕ → Inner
inner_of classes names name =
    record { name = kind_number names name; class = class_number classes name; is_object = is_object name; is_above_arrays = is_above_arrays name; is_interface = names_interface classes name }

abbrev pub row_with : List ClassFile → List (List ℕ) → List (List ℕ) → List ℕ → KindRow
row_with classes kinds names name =
    record { element = component_of kinds name; class = class_number classes name; dimensions = dimensions (type_of_name name); letter = letter_of (type_of_name name); inner = inner_of classes names (inner_name name) }

abbrev pub row_of : List ClassFile → List (List ℕ) → List ℕ → KindRow
row_of classes kinds name = row_with classes kinds (map inner_name kinds) name

-- a type is below another, by their dimensions, their letters, and what is so of their classes
abbrev pub is_class : Option ℕ → Bool
is_class None = false
is_class (Some letter) = letter == letter_class

abbrev pub by_letters : Option ℕ → Option ℕ → Bool → Bool
by_letters (Some one) (Some other) among = if one == letter_class && other == letter_class then among else one == other
by_letters one other among = false

abbrev pub compared : KindRow → KindRow → Bool → Bool
compared one other among =
    if one.dimensions == other.dimensions then by_letters one.letter other.letter among
    else nat_lt other.dimensions one.dimensions && (is_class other.letter && other.inner.is_above_arrays)

-- and their classes, as instances and as what is assigned
abbrev pub instance_by : List ClassFile → Inner → Inner → Bool
instance_by classes one other = (one.name == other.name) || other.is_object || between classes one.class other.class

abbrev pub assignable_by : List ClassFile → Inner → Inner → Bool
assignable_by classes one other = other.is_interface || instance_by classes one other
