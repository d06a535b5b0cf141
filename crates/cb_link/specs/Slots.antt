-- Static fields by their slots, and the fields of objects (JVMS §2.7; §5.4.2 leaves their order to the machine).
use Rattle.std.specs.Prelude.{ℕ, ◌+◌, Bool, false, List, [], map, filter, take, drop, length, count_by, codes, not, Option, Some, None, option_and_then, option_map, slice_get, ◌==◌, ◌&&◌, if◌then◌else◌}
use Rattle.std.specs.List.{enumerate_from, flat_map, list_any}
use Rattle.cb_plain.specs.declared.shape.Shape.{Shape}
use Rattle.cb_plain.specs.declared.shape.Shape.TheVariants as shapes
use Rattle.cb_classfile.specs.declared.class.ClassFile.{ClassFile}
use Rattle.cb_classfile.specs.declared.field.Field.{Field}
use Rattle.cb_classfile.specs.Pool.{text_at}
use Rattle.cb_hierarchy.specs.declared.member.Field.{Field as RankedField}
use Rattle.cb_hierarchy.specs.Classes.{superclass}
use Rattle.cb_hierarchy.specs.Layout.{layout}
use Rattle.cb_hierarchy.specs.Orders.{upwards}
use Rattle.cb_kinds.specs.declared.basic.Basic.{Basic}
use Rattle.cb_kinds.specs.Basics.{component_of, is_reference}
use Rattle.cb_kinds.specs.Kinds.{type_of_name}
use Rattle.cb_kinds.specs.Texts.{same_text}
use Rattle.cb_classfile.specs.Flags.{acc_static}
use Rattle.cb_link.specs.Numbers.{Numbered, acc_enum, class_number, fields_of, has_flag, hierarchy, name_of, or_none, ranked_fields}
use Rattle.cb_link.specs.Program.{Linked}

-- the numbers of the static fields, by class and place: a slot is a place in this list
abbrev pub statics : List ClassFile → List ℕ
statics classes = map (λ entry. entry.0) (filter (λ entry. entry.1.is_static) (enumerate_from 0 (ranked_fields classes)))

-- the numbers of the fields of an object of a class, those of its superclasses first: a slot is a place in this list
abbrev pub object_fields : List ClassFile → ℕ → List ℕ
object_fields classes class = layout (hierarchy classes) (ranked_fields classes) class

-- the slot of a field of a number: a static one's is counted among all, and another's behind those of the superclass and those
-- of its class before it
abbrev pub is_own : ℕ → RankedField → Bool
is_own class field = (field.declared.class == class) && not field.is_static

abbrev slot_for : List ClassFile → ℕ → Option RankedField → ℕ
slot_for classes number None = 0
slot_for classes number (Some field) =
    if field.is_static then count_by (λ other. other.is_static) (take number (ranked_fields classes))
    else length (flat_map (object_fields classes) (superclass (hierarchy classes) field.declared.class))
    + count_by (is_own field.declared.class) (take number (ranked_fields classes))

abbrev pub slot_of : List ClassFile → ℕ → ℕ
slot_of classes number = slot_for classes number (slice_get (ranked_fields classes) number)

-- what the values of fields are, of a static field and of a field of an object
abbrev pub basic_of_field : Linked → ℕ → Option Basic
basic_of_field program number = option_map (λ field. field.basic) (slice_get program.fields number)

abbrev pub static_basic : Linked → ℕ → Option Basic
static_basic program slot = option_and_then (basic_of_field program) (slice_get (statics program.classes) slot)

abbrev pub field_basic : Linked → ℕ → ℕ → Option Basic
field_basic program class slot = option_and_then (basic_of_field program) (slice_get (object_fields program.classes class) slot)

-- the record of a static field with its class
abbrev pub static_at : Linked → ℕ → Option (Numbered Field)
static_at program slot = option_and_then (slice_get (fields_of program.classes)) (slice_get (statics program.classes) slot)

-- an enum's constant: a static field with the flag, of the type of its class, below Enum (JLS §8.9.3)
abbrev pub enum_name : List ℕ
enum_name = codes "java/lang/Enum"

abbrev pub is_enum : List ClassFile → ℕ → Option ℕ → Bool
is_enum classes class None = false
is_enum classes class (Some enum) = list_any (λ number. number == enum) (drop 1 (upwards (hierarchy classes) class))

abbrev pub is_enum_static : List ClassFile → Numbered Field → Bool
is_enum_static classes field =
    (has_flag acc_static field.member.flags.0 && has_flag acc_enum field.member.flags.0)
    && (same_text (or_none (text_at field.pool field.member.descriptor)) (type_of_name (or_none (option_map name_of (slice_get classes field.class))))
    && is_enum classes field.class (class_number classes enum_name))

-- the slots of a class's constants, if it is an enum's, in the order of its fields
abbrev pub enum_statics : List ClassFile → ℕ → List ℕ
enum_statics classes class =
    map (λ entry. slot_of classes entry.0) (filter (λ entry. (entry.1.class == class) && is_enum_static classes entry.1) (enumerate_from 0 (fields_of classes)))

-- which words of an object hold references, of a class, of an array, and of a name without a class, which has no objects
abbrev pub is_some_reference : Option Basic → Bool
is_some_reference None = false
is_some_reference (Some basic) = is_reference basic

abbrev pub field_marks : Linked → Option ℕ → List Bool
field_marks program None = []
field_marks program (Some class) = map (λ number. is_some_reference (basic_of_field program number)) (object_fields program.classes class)

abbrev pub shape_with : Linked → List ℕ → Option Basic → Shape
shape_with program name None = shapes.Fields (field_marks program (class_number program.classes name))
shape_with program name (Some component) = shapes.Elements (is_reference component)

abbrev pub shape : Linked → ℕ → Shape
shape program kind = shape_with program (or_none (slice_get program.kinds kind)) (component_of program.kinds (or_none (slice_get program.kinds kind)))
