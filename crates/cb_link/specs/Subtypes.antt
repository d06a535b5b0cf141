-- Which kinds the objects of a kind are instances of (JVMS §6.5 instanceof), and to which kinds a kind is assignable (§4.10.1.2).
use Rattle.std.specs.Prelude.{ℕ, Bool, false, List, [], ◌∷◌, codes, Option, Some, None, slice_get, ◌==◌, ◌||◌, ◌&&◌, if◌then◌else◌}
use Rattle.cb_classfile.specs.declared.class.ClassFile.{ClassFile}
use Rattle.cb_hierarchy.specs.Classes.{is_interface}
use Rattle.cb_hierarchy.specs.Orders.{is_subclass}
use Rattle.cb_kinds.specs.Kinds.{name_in, type_of_name}
use Rattle.cb_kinds.specs.Texts.{same_text}
use Rattle.cb_names.specs.Signs.{bracket, letter_class}
use Rattle.cb_link.specs.Numbers.{class_number, hierarchy, or_none}
use Rattle.cb_link.specs.Program.{Linked}

-- Object, and the interfaces that arrays have (JLS §10.8)
abbrev pub is_object : List ℕ → Bool
is_object name = same_text name (codes "java/lang/Object")

abbrev pub is_above_arrays : List ℕ → Bool
is_above_arrays name = is_object name || same_text name (codes "java/lang/Cloneable") || same_text name (codes "java/io/Serializable")

-- a type is below another, by what is so of the names of classes: arrays of arrays by their components, an array of a base type
-- below itself alone, and each array below Object and the interfaces that arrays have
abbrev pub is_subtype : (List ℕ → List ℕ → Bool) → List ℕ → List ℕ → Bool
is_subtype among [] other = false
is_subtype among (unit ∷ rest) [] = false
is_subtype among (unit ∷ rest) (other ∷ others) =
    if unit == bracket then
    if other == bracket then is_subtype among rest others
    else other == letter_class && is_above_arrays (name_in others)
    else if unit == letter_class && other == letter_class then among (name_in rest) (name_in others)
    else unit == other

-- a class or interface is another one or below it
abbrev pub between : List ClassFile → Option ℕ → Option ℕ → Bool
between classes (Some one) (Some other) = is_subclass (hierarchy classes) one other
between classes one other = false

abbrev pub is_below : List ClassFile → List ℕ → List ℕ → Bool
is_below classes one other = between classes (class_number classes one) (class_number classes other)

-- the class of a name is an interface
abbrev pub interface_at : List ClassFile → Option ℕ → Bool
interface_at classes None = false
interface_at classes (Some number) = is_interface (hierarchy classes) number

abbrev pub names_interface : List ClassFile → List ℕ → Bool
names_interface classes name = interface_at classes (class_number classes name)

-- of classes: a name without a class is below itself and Object. An interface that is assigned to counts as Object
abbrev pub is_instance : List ClassFile → List ℕ → List ℕ → Bool
is_instance classes one other = same_text one other || is_object other || is_below classes one other

abbrev pub is_assignable : List ClassFile → List ℕ → List ℕ → Bool
is_assignable classes one other = names_interface classes other || is_instance classes one other

-- of the kinds of a program
abbrev pub type_of_kind : Linked → ℕ → List ℕ
type_of_kind program kind = type_of_name (or_none (slice_get program.kinds kind))

abbrev pub instance : Linked → ℕ → ℕ → Bool
instance program kind other = is_subtype (is_instance program.classes) (type_of_kind program kind) (type_of_kind program other)

abbrev pub assignable : Linked → ℕ → ℕ → Bool
assignable program kind other = is_subtype (is_assignable program.classes) (type_of_kind program kind) (type_of_kind program other)
