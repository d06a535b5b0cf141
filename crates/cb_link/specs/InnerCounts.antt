-- How slots are counted, field by field, which no public clause cites.
use Rattle.std.specs.Prelude.{◌≡◌, ℕ, ◌+◌, ◌<◌, List, [], map, filter, take, length, count_by, get_or, slice_get, Option, Some, None, ◌==◌, ◌&&◌, if◌then◌else◌}
use Rattle.std.specs.List.{enumerate_from, flat_map}
use Rattle.cb_classfile.specs.declared.class.ClassFile.{ClassFile}
use Rattle.cb_classfile.specs.declared.field.Field.{Field}
use Rattle.cb_hierarchy.specs.declared.class.Class.{Class}
use Rattle.cb_hierarchy.specs.declared.member.Field.{Field as RankedField}
use Rattle.cb_hierarchy.specs.Classes.{superclass}
use Rattle.cb_hierarchy.specs.declared.selected.Selected.{Selected}
use Rattle.cb_hierarchy.specs.Layout.{layout}
use Rattle.cb_hierarchy.specs.Selection.{entry_at, selected}
use Rattle.cb_link.specs.declared.linked.LinkedField.{LinkedField}
use Rattle.cb_link.specs.Numbers.{Numbered, fields_of, hierarchy, ranked_methods}
use Rattle.cb_link.specs.Places.{IsPlaced}
use Rattle.cb_link.specs.Program.{Linked, linked_field}
use Rattle.cb_link.specs.Slots.{is_enum_static, is_own, slot_of}
use Rattle.cb_link.specs.InnerTables.{AreAll}

-- the numbers of the static fields
abbrev pub statics_in : List RankedField → List ℕ
statics_in fields = map (λ entry. entry.0) (filter (λ entry. entry.1.is_static) (enumerate_from 0 fields))

-- how many fields the objects of a class's superclass have, and as lists of them say
abbrev pub above_count : List Class → List RankedField → ℕ → ℕ
above_count classes fields class = length (flat_map (layout classes fields) (superclass classes class))

abbrev pub many_of : Option (List ℕ) → ℕ
many_of None = 0
many_of (Some layout) = length layout

abbrev pub count_of : List (List ℕ) → Option ℕ → ℕ
count_of layouts None = 0
count_of layouts (Some parent) = many_of (slice_get layouts parent)

abbrev pub count_above : List (List ℕ) → Class → ℕ
count_above layouts class = count_of layouts class.superclass

-- a field's slot
abbrev pub slot_behind : List Class → List RankedField → ℕ → RankedField → ℕ
slot_behind classes fields number field =
    if field.is_static then count_by (λ other. other.is_static) (take number fields)
    else above_count classes fields field.declared.class + count_by (is_own field.declared.class) (take number fields)

abbrev pub slot_for : List Class → List RankedField → ℕ → Option RankedField → ℕ
slot_for classes fields number None = 0
slot_for classes fields number (Some field) = slot_behind classes fields number field

abbrev pub slot_by : List Class → List RankedField → ℕ → ℕ
slot_by classes fields number = slot_for classes fields number (slice_get fields number)

-- the slots that come next, behind so many fields
pub record HasCounted (classes : List Class) (fields : List RankedField) (number : ℕ) (statics : ℕ) (objects slots : List ℕ) : Type 0 where
  pub static_ones : statics ≡ count_by (λ other. other.is_static) (take number fields)
  pub as_many : length objects ≡ length classes
  pub each : (class : ℕ) → class < length classes → get_or objects class 0 ≡ above_count classes fields class + count_by (is_own class) (take number fields)
  pub taken : AreAll number (slot_by classes fields) slots

-- what a program has of the field of a number
pub record HasField (program : Linked) (number : ℕ) (field : LinkedField) : Type 0 where
  pub numbered : Numbered Field
  pub there : slice_get (fields_of program.classes) number ≡ Some numbered
  pub placed : IsPlaced (λ class. class.fields) program.classes numbered
  pub is : field ≡ linked_field program.kinds numbered

-- the slots of enums' constants among so many fields
abbrev pub enums_in : List ClassFile → ℕ → ℕ → List ℕ
enums_in classes number class =
    map (λ entry. slot_of classes entry.0) (filter (λ entry. (entry.1.class == class) && is_enum_static classes entry.1) (enumerate_from 0 (take number (fields_of classes))))

pub record AreEnums (classes : List ClassFile) (number : ℕ) (rows : List (List ℕ)) : Type 0 where
  pub as_many : length rows ≡ length classes
  pub each : (class : ℕ) → class < length classes → get_or rows class [] ≡ enums_in classes number class

-- which methods are selected on objects of classes
abbrev pub HasSelection : List ClassFile → List (List Selected) → Type 0
HasSelection classes selection =
    (class method : ℕ) → class < length classes → method < length (ranked_methods classes)
    → entry_at selection class method ≡ Some (selected (hierarchy classes) (ranked_methods classes) class method)
