-- The fields of objects of the library's classes that stand right below Object.
use Rattle.std.proofs.Common.{◌≡◌, ◌∙◌, ap, arith, refl, sym, subst, ℕ, zero, suc, ◌+◌, ◌<◌, ◌==◌, ◌&&◌, not, List, [], ◌∷◌, ◌++◌, Option, Some, None, option_map, slice_get}
use Rattle.std.specs.Prelude.{length}
use Rattle.std.specs.List.{AllByRecursion, enumerate_from, flat_map}
use Rattle.std.proofs.lemmas.Option.{option_and_then_some, same_Some, slice_get-map}
use Rattle.cb_classfile.specs.Library.{AreLibrary, IsRecordOf, SaysField}
use Rattle.cb_classfile.specs.Pool.{text_at}
use Rattle.cb_classfile.specs.declared.class.ClassFile.{ClassFile}
use Rattle.cb_classfile.specs.declared.field.Field.{Field}
use Rattle.cb_hierarchy.specs.Layout.{own_fields}
use Rattle.cb_hierarchy.specs.declared.member.Field.{Field as RankedField}
use Rattle.cb_kinds.specs.Basics.{basic_of}
use Rattle.cb_kinds.specs.declared.basic.Basic.{Basic}
use Rattle.cb_library.specs.CoreClasses.{core_classes}
use Rattle.cb_library.specs.Names as names
use Rattle.cb_library.specs.Rows.{CoreClass}
use Rattle.cb_library.specs.Rows as rows
use Rattle.cb_link.specs.Having.{IsWhole}
use Rattle.cb_link.specs.Numbers.{Numbered, fields_of, hierarchy, or_none, ranked_field, ranked_fields}
use Rattle.cb_link.specs.Program.{Linked, linked_field}
use Rattle.cb_link.specs.Slots.{basic_of_field, field_basic, object_fields}
use Rattle.cb_link.specs.declared.linked.LinkedField.{LinkedField}
use Rattle.cb_text.specs.declared.constant.Constant.{Constant}
use Rattle.cb_safety.proofs.Assigned.{mapped, never}
use Rattle.cb_safety.proofs.Exceptions.{HasRow, IsRow, extends_to, file_at, laid, laid_object, own_count, rank_low, row_zipped}
use Rattle.cb_safety.proofs.OwnFields.{IsKept, IsNoStatic, class_fields, fields_in, kept_of, of_object}
use Rattle.cb_safety.proofs.Lacked.{entry_at}

-- a field of the row at a slot, and what its values are
pub record SaysBasic (program : Linked) (table : List rows.Field) (slot : ℕ) (basic : Basic) : Type 0 where
  pub row : rows.Field
  pub there : slice_get table slot ≡ Some row
  pub is : basic ≡ basic_of program.kinds row.descriptor

abbrev numbered_as : ℕ → ClassFile → ℕ × Field → Numbered Field
numbered_as number class own = record { class = number; place = own.0; pool = class.pool; member = own.1 }

none_at : {Item : Type 0} (from : ℕ) (items : List Item) (place : ℕ) → slice_get items place ≡ None → slice_get (enumerate_from from items) place ≡ None
none_at from [] place is = refl
none_at from (first ∷ items) zero is = never (sym is)
none_at from (first ∷ items) (suc place) is = none_at (from + 1) items place is

-- what a class lists at a place
listed_at : (number : ℕ) (class : ClassFile) (slot : ℕ) (own : Numbered Field) → slice_get (fields_in number class) slot ≡ Some own
    → (slice_get class.fields slot ≡ Some own.member) × (own.pool ≡ class.pool)
listed_at number class slot own is =
    mapped (numbered_as number class) (slice_get (enumerate_from 0 class.fields) slot) own (sym (slice_get-map (numbered_as number class) (enumerate_from 0 class.fields) slot) ∙ is)
    (λ entry found same. (by (slice_get class.fields slot) refl entry found ∙ ap {B = Option Field} Some (ap (λ (own : Numbered Field). own.member) same), sym (ap (λ (own : Numbered Field). own.pool) same)))
  where
    by : (field : Option Field) → slice_get class.fields slot ≡ field → (entry : ℕ × Field) → slice_get (enumerate_from 0 class.fields) slot ≡ Some entry → slice_get class.fields slot ≡ Some entry.1
    by None is entry found = never (sym (none_at 0 class.fields slot is) ∙ found)
    by (Some field) is entry found =
        is ∙ ap {B = Option Field} Some (ap (λ (entry : ℕ × Field). entry.1) (same_Some (0 + slot, field) entry (sym (entry_at 0 class.fields slot field is) ∙ found)))

module _ (program : Linked) (library more : List ClassFile) (front : program.classes ≡ library ++ more) (are : AreLibrary library) (whole : IsWhole program) (place : ℕ) (row : CoreClass)
    (there : slice_get core_classes place ≡ Some row) (none : AllByRecursion IsNoStatic row.fields) where
  abbrev classes : List ClassFile
  classes = library ++ more

  file : IsRow IsRecordOf (library ++ more) place row
  file = file_at library more are place row there

  basic_at : (number : ℕ) (own : Numbered Field) → slice_get (fields_of (library ++ more)) number ≡ Some own → basic_of_field program number ≡ Some (linked_field program.kinds own).basic
  basic_at number own there =
      ap (λ (fields : List LinkedField). option_map (λ (field : LinkedField). field.basic) (slice_get fields number)) whole.fields
      ∙ ap (option_map (λ (field : LinkedField). field.basic)) (slice_get-map (linked_field program.kinds) (fields_of program.classes) number
      ∙ ap (λ (classes : List ClassFile). option_map (linked_field program.kinds) (slice_get (fields_of classes) number)) front ∙ ap (option_map (linked_field program.kinds)) there)

  -- the fields that it declares itself, by their slots among these
  pub own_basic : (slot number : ℕ) (basic : Basic) → slice_get (own_fields (ranked_fields (library ++ more)) place) slot ≡ Some number → basic_of_field program number ≡ Some basic
      → SaysBasic program row.fields slot basic
  own_basic slot number basic is own =
      let entry : IsKept (ranked_field (library ++ more)) (λ (field : RankedField). (field.declared.class == place) && not field.is_static) 0 (fields_of (library ++ more)) slot number =
      kept_of (ranked_field (library ++ more)) (λ (field : RankedField). (field.declared.class == place) && not field.is_static) 0 (fields_of (library ++ more)) slot number is in
      let same : number ≡ entry.place = omega (arith, entry.is) in
      let listed = listed_at place file.item slot entry.item
      (sym (ap (λ (list : List (Numbered Field)). slice_get list slot)
      (class_fields 0 place place (library ++ more) file.item (let zeroth : place ≡ 0 + place = omega arith in zeroth) file.there (of_object file.item.pool row.fields file.item.fields file.is.fields none)))
      ∙ entry.kept) in
      let says : HasRow (SaysField file.item.pool) row.fields slot entry.item.member =
      row_zipped (SaysField file.item.pool) row.fields file.item.fields slot entry.item.member file.is.fields listed.0 in
      let descriptor : text_at entry.item.pool entry.item.member.descriptor ≡ Some says.row.descriptor =
      ap (λ (pool : List Constant). text_at pool entry.item.member.descriptor) listed.1 ∙ says.is.descriptor in
      record {
        row = says.row;
        there = says.there;
        is =
            same_Some basic (linked_field program.kinds entry.item).basic (sym own ∙ ap (basic_of_field program) same ∙ basic_at entry.place entry.item entry.there)
            ∙ ap (λ (text : Option (List ℕ)). basic_of program.kinds (or_none text)) descriptor;
      }

  module _ (super : row.superclass ≡ Some names.object) where
    laid_own : (turns : ℕ) → place < turns → laid library more are turns place ≡ own_fields (ranked_fields (library ++ more)) place
    laid_own zero low = absurd (omega (arith, low))
    laid_own (suc turns) low =
        ap (λ (supers : List ℕ). flat_map (laid library more are turns) supers ++ own_fields (ranked_fields (library ++ more)) place)
        (extends_to library more are place row names.object 0 there super refl)
        ∙ ap (λ (front : List ℕ). (front ++ []) ++ own_fields (ranked_fields (library ++ more)) place) (laid_object library more are turns)

    fields_own : object_fields (library ++ more) place ≡ own_fields (ranked_fields (library ++ more)) place
    fields_own = laid_own (length (hierarchy (library ++ more))) (rank_low library more are place row there)

    -- there are so many
    pub object_count : length (object_fields program.classes place) ≡ length row.fields
    object_count =
        ap (λ (classes : List ClassFile). length (object_fields classes place)) front
        ∙ ap (λ (numbers : List ℕ). length numbers) fields_own ∙ own_count library more are place row there none

    -- and these are all of its objects
    pub object_basic : (slot : ℕ) (basic : Basic) → field_basic program place slot ≡ Some basic → SaysBasic program row.fields slot basic
    object_basic slot basic declared =
        option_and_then_some (basic_of_field program) (slice_get (object_fields program.classes place) slot) basic declared
        (λ number stands own.
        own_basic slot number basic (own_slot slot number (ap (λ (classes : List ClassFile). slice_get (object_fields classes place) slot) (sym front) ∙ stands)) own)
      where
        own_slot : (slot number : ℕ) → slice_get (object_fields (library ++ more) place) slot ≡ Some number → slice_get (own_fields (ranked_fields (library ++ more)) place) slot ≡ Some number
        own_slot slot number is = subst (λ (own : List ℕ). slice_get own slot ≡ Some number) fields_own is
