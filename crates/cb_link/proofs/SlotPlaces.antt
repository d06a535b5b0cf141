-- Slots are places in the lists of static fields and of the fields of objects.
use Rattle.std.proofs.Common.{◌≡◌, ◌∙◌, ap, refl, sym, arith, ℕ, ◌+◌, ◌<◌, Bool, true, false, ◌&&◌, ◌==◌, if◌then◌else◌, List, [], Some, length, take}
use Rattle.std.specs.Prelude.{count_by, option_and_then, option_map, slice_get}
use Rattle.std.proofs.lemmas.Bool.{false≢true}
use Rattle.std.proofs.lemmas.List.{length-map}
use Rattle.std.proofs.lemmas.List.Sums.{length-filter}
use Rattle.std.proofs.lemmas.Option.{slice_get-map, slice_get_within}
use Rattle.cb_classfile.specs.declared.class.ClassFile.{ClassFile}
use Rattle.cb_classfile.specs.declared.field.Field.{Field}
use Rattle.cb_hierarchy.specs.declared.member.Field.{Field as RankedField}
use Rattle.cb_link.specs.declared.linked.LinkedField.{LinkedField}
use Rattle.cb_link.specs.InnerCounts.{above_count, slot_for}
use Rattle.cb_link.specs.Having.{IsWhole}
use Rattle.cb_classfile.specs.Flags.{acc_static}
use Rattle.cb_link.specs.Numbers.{Numbered, acc_enum, fields_of, has_flag, hierarchy, ranked_field, ranked_fields}
use Rattle.cb_link.specs.Program.{Linked, linked_field}
use Rattle.cb_link.specs.Slots.{basic_of_field, enum_statics, field_basic, is_enum_static, is_own, object_fields, slot_of, statics}
use Rattle.cb_link.specs.InnerTables.{AreAll}
use Rattle.cb_link.proofs.Grown.{entry_is}
use Rattle.cb_link.proofs.NumbersLow.{each_at, in_layout}
use Rattle.cb_link.proofs.Picked.{all_picked, numbers_low, picked_at}

module _ (classes : List ClassFile) where
  -- a static field's
  pub static_slot : (number : ℕ) (field : RankedField) → slice_get (ranked_fields classes) number ≡ Some field → field.is_static ≡ true
      → slice_get (statics classes) (slot_of classes number) ≡ Some number
  static_slot number field is static =
      ap (λ slot. slice_get (statics classes) slot)
      (ap (slot_for (hierarchy classes) (ranked_fields classes) number) is
      ∙ ap (λ static. if static then count_by (λ (other : RankedField). other.is_static) (take number (ranked_fields classes)) else above_count (hierarchy classes) (ranked_fields classes) field.declared.class + count_by (is_own field.declared.class) (take number (ranked_fields classes))) static
      ∙ sym (length-filter (λ (other : RankedField). other.is_static) (take number (ranked_fields classes))))
      ∙ picked_at (λ (other : RankedField). other.is_static) 0 (ranked_fields classes) number field is static
      ∙ ap Some (let same : 0 + number ≡ number = omega arith in same)

  first_true : (one other : Bool) → (one && other) ≡ true → one ≡ true
  first_true true other is = refl
  first_true false other is = absurd (false≢true is)

  -- an enum's constants are static
  enum_slot : (number : ℕ) (field : Numbered Field) → slice_get (fields_of classes) number ≡ Some field → is_enum_static classes field ≡ true → slot_of classes number < length (statics classes)
  enum_slot number field is constant =
      let at : slice_get (ranked_fields classes) number ≡ Some (ranked_field classes field) = slice_get-map (ranked_field classes) (fields_of classes) number ∙ ap (option_map (ranked_field classes)) is in
      let flags = first_true (has_flag acc_static field.member.flags.0 && has_flag acc_enum field.member.flags.0) _ constant in
      let static = first_true (has_flag acc_static field.member.flags.0) (has_flag acc_enum field.member.flags.0) flags in
      slice_get_within (statics classes) (slot_of classes number) number (static_slot number (ranked_field classes field) at static)

  pub enum_within : (class place slot : ℕ) → slice_get (enum_statics classes class) place ≡ Some slot → slot < length (statics classes)
  enum_within class place slot is =
      each_at (λ slot. slot < length (statics classes)) (enum_statics classes class) place slot
      (all_picked (λ slot. slot < length (statics classes)) (λ entry. (entry.1.class == class) && is_enum_static classes entry.1) (λ entry. slot_of classes entry.0) [] (fields_of classes)
      (λ number field at passes. enum_slot number field at (second_true (field.class == class) (is_enum_static classes field) passes)))
      is
    where
      second_true : (one other : Bool) → (one && other) ≡ true → other ≡ true
      second_true true other is = is
      second_true false other is = absurd (false≢true is)

module _ (program : Linked) (whole : IsWhole program) where
  many : length program.fields ≡ length (ranked_fields program.classes)
  many =
      ap length whole.fields ∙ length-map (fields_of program.classes) (linked_field program.kinds)
      ∙ sym (length-map (fields_of program.classes) (ranked_field program.classes))

  pub static_within : (numbers : List ℕ) (slot number : ℕ) → numbers ≡ statics program.classes → slice_get numbers slot ≡ Some number → number < length program.fields
  static_within numbers slot number are is =
      let fields = ranked_fields program.classes in
      let low : number < length fields =
      each_at (λ number. number < length fields) (statics program.classes) slot number (numbers_low (λ entry. entry.1.is_static) (length fields) 0 fields (omega arith))
      (ap (λ numbers. slice_get numbers slot) (sym are) ∙ is) in
      omega (arith, low, many)

  module _ (layouts : List (List ℕ)) (class slot number : ℕ) (layout : List ℕ) (all : AreAll (length program.classes) (object_fields program.classes) layouts)
      (has : slice_get layouts class ≡ Some layout) (is : slice_get layout slot ≡ Some number) where
    at : slice_get (object_fields program.classes class) slot ≡ Some number
    at = ap (λ layout. slice_get layout slot) (sym (entry_is (length program.classes) (object_fields program.classes) layouts class layout all has)) ∙ is

    pub field_within : number < length program.fields
    field_within =
        let low = in_layout (hierarchy program.classes) (ranked_fields program.classes) class slot number at in
        omega (arith, low, many)

    pub basic_is : (field : LinkedField) → slice_get program.fields number ≡ Some field → field_basic program class slot ≡ Some field.basic
    basic_is field there = ap (option_and_then (basic_of_field program)) at ∙ ap (option_map (λ (field : LinkedField). field.basic)) there
