-- What the tables of a program have, which no public clause cites.
use Rattle.std.specs.Prelude.{◌≡◌, ℕ, ◌<◌, ◌^◌, List, map, length, slice_get, Some}
use Rattle.cb_hierarchy.specs.Selection.{entry_at, selected}
use Rattle.cb_io.specs.Utf8.{utf8}
use Rattle.cb_kinds.specs.Basics.{kind_number}
use Rattle.cb_link.specs.declared.all_tables.CodeTables.{CodeTables}
use Rattle.cb_link.specs.declared.all_tables.MemberTables.{MemberTables}
use Rattle.cb_link.specs.declared.all_tables.Tables.{Tables}
use Rattle.cb_link.specs.declared.call_tables.CallTables.{CallTables}
use Rattle.cb_link.specs.declared.constant_table.ConstantTable.{ConstantTable}
use Rattle.cb_link.specs.declared.field_tables.FieldTables.{FieldTables}
use Rattle.cb_link.specs.declared.kind_table.KindTable.{KindTable}
use Rattle.cb_link.specs.declared.meanings.Meaning.{Meaning}
use Rattle.cb_link.specs.declared.meanings.MeaningTable.{MeaningTable}
use Rattle.cb_link.specs.declared.place_tables.PlaceTables.{PlaceTables}
use Rattle.cb_link.specs.declared.places.Places.{Places}
use Rattle.cb_link.specs.Calls.{initial_parents, initialiser}
use Rattle.cb_link.specs.InnerKinds.{row_of}
use Rattle.cb_link.specs.Having.{IsWhole}
use Rattle.cb_link.specs.Numbers.{hierarchy, name_of, ranked_fields, ranked_methods}
use Rattle.cb_link.specs.Program.{Linked}
use Rattle.cb_link.specs.Slots.{enum_statics, object_fields, shape, slot_of, statics}
use Rattle.cb_link.specs.InnerPlaces.{HasMeanings, HasPlaces, constants_of, sites_before}

-- a list has so many entries, and each is what is said of its place
pub record AreAll {A : Type 0} (count : ℕ) (said : ℕ → A) (entries : List A) : Type 0 where
  pub as_many : length entries ≡ count
  pub each : (place : ℕ) → place < count → slice_get entries place ≡ Some (said place)

pub record IsKindTable (program : Linked) (table : KindTable) : Type 0 where
  pub rows : table.rows ≡ map (row_of program.classes program.kinds) program.kinds
  pub of_classes : table.of_classes ≡ map (λ class. kind_number program.kinds (name_of class)) program.classes
  pub names : table.names ≡ map (λ class. utf8 (name_of class)) program.classes

pub record IsFieldTables (program : Linked) (tables : FieldTables) : Type 0 where
  pub slots : AreAll (length (ranked_fields program.classes)) (slot_of program.classes) tables.slots
  pub statics : tables.statics ≡ statics program.classes
  pub few : length tables.statics < 2 ^ 32
  pub enums : AreAll (length program.classes) (enum_statics program.classes) tables.enums.items
  pub layouts : AreAll (length program.classes) (object_fields program.classes) tables.layouts
  pub shapes : AreAll (length program.kinds) (shape program) tables.shapes

pub record IsCallTables (program : Linked) (tables : CallTables) : Type 0 where
  pub selection : (class method : ℕ) → class < length program.classes → method < length (ranked_methods program.classes)
      → entry_at tables.selection class method ≡ Some (selected (hierarchy program.classes) (ranked_methods program.classes) class method)
  pub parents : AreAll (length program.classes) (initial_parents program.classes) tables.parents
  pub initialisers : AreAll (length program.classes) (initialiser program.classes) tables.initialisers

pub record IsConstantTable (program : Linked) (table : ConstantTable) : Type 0 where
  pub rows : table.rows ≡ map (constants_of program) program.classes

pub record IsMeaningTable (program : Linked) (table : MeaningTable) : Type 0 where
  pub as_many : length table.rows ≡ length program.classes
  pub each : (number : ℕ) (row : List Meaning) → slice_get table.rows number ≡ Some row → HasMeanings program number row

pub record IsPlaceTables (program : Linked) (tables : PlaceTables) : Type 0 where
  pub as_many : length tables.rows ≡ length program.methods
  pub each : (number : ℕ) (places : Places) → slice_get tables.rows number ≡ Some places → HasPlaces program number (sites_before program.classes number) places

-- the tables in two parts
pub record AreMemberTables (program : Linked) (tables : MemberTables) : Type 0 where
  pub of_kinds : IsKindTable program tables.kinds
  pub of_fields : IsFieldTables program tables.fields
  pub of_calls : IsCallTables program tables.calls

pub record AreCodeTables (program : Linked) (tables : CodeTables) : Type 0 where
  pub of_constants : IsConstantTable program tables.constants
  pub of_places : IsPlaceTables program tables.places

pub record AreTables (program : Linked) (tables : Tables) : Type 0 where
  pub of_members : AreMemberTables program tables.members
  pub of_code : AreCodeTables program tables.code

pub record HasTables (program : Linked) (tables : Tables) : Type 0 where
  pub whole : IsWhole program
  pub of_kinds : IsKindTable program tables.members.kinds
  pub of_fields : IsFieldTables program tables.members.fields
  pub of_calls : IsCallTables program tables.members.calls
  pub of_constants : IsConstantTable program tables.code.constants
  pub of_places : IsPlaceTables program tables.code.places
