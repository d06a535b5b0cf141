-- The rows of enums' constants, field by field.
use Rattle.std.proofs.Common.{◌≡◌, ◌∙◌, ap, arith, refl, sym, ℕ, ◌+◌, ◌<◌, ◌≤◌, inl, inr, Bool, true, false, cond, ◌&&◌, ◌==◌, List, [], ◌∷◌, ◌++◌, Some, length, get_or, set, replicate, get_or-set_same, get_or-set_other, length-set}
use Rattle.std.specs.Prelude.{slice_get}
use Rattle.std.proofs.lemmas.Bool.{cases_eq, eq-eqb, ne_eqb}
use Rattle.std.proofs.lemmas.List.{append-nil, get_or-replicate, length-replicate, take_all}
use Rattle.std.proofs.lemmas.Option.{slice_get-get_or}
use Rattle.cb_classfile.specs.declared.class.ClassFile.{ClassFile}
use Rattle.cb_classfile.specs.declared.field.Field.{Field}
use Rattle.cb_link.specs.InnerCounts.{AreEnums, enums_in}
use Rattle.cb_link.specs.Numbers.{Numbered, fields_of}
use Rattle.cb_link.specs.Slots.{enum_statics, is_enum_static, slot_of}
use Rattle.cb_link.specs.InnerTables.{AreAll}
use Rattle.cb_link.proofs.Picked.{picked, picked_more}

module _ (classes : List ClassFile) where
  pub enums_none : (rows : List (List ℕ)) → rows ≡ replicate (length classes) [] → AreEnums classes 0 rows
  enums_none rows is = record {
    as_many = ap length is ∙ length-replicate (length classes) [];
    each = λ class within. ap (λ rows. get_or rows class []) is ∙ get_or-replicate (length classes) class [] [] within;
  }

  -- all of them
  pub enums_all : (number : ℕ) (rows : List (List ℕ)) → length (fields_of classes) ≤ number → AreEnums classes number rows → AreAll (length classes) (enum_statics classes) rows
  enums_all number rows past rows_are = record {
    as_many = rows_are.as_many;
    each = λ class within.
        slice_get-get_or rows class [] (omega (arith, rows_are.as_many, within))
        ∙ ap Some (rows_are.each class within ∙ ap (picked (λ (entry : ℕ × Numbered Field). (entry.1.class == class) && is_enum_static classes entry.1) (λ entry. slot_of classes entry.0)) (take_all number (fields_of classes) past));
  }

  module _ (number : ℕ) (field : Numbered Field) (is : slice_get (fields_of classes) number ≡ Some field) where
    -- one field more
    row_more : (class : ℕ) (test : Bool) → ((field.class == class) && is_enum_static classes field) ≡ test
        → enums_in classes (number + 1) class ≡ enums_in classes number class ++ cond test (slot_of classes number ∷ []) []
    row_more class test told =
        picked_more (λ entry. (entry.1.class == class) && is_enum_static classes entry.1) (λ entry. slot_of classes entry.0) (fields_of classes) number field is
        ∙ ap (λ test. enums_in classes number class ++ cond test (slot_of classes number ∷ []) []) told

    and_false : (test : Bool) → (test && false) ≡ false
    and_false true = refl
    and_false false = refl

    -- that is no constant
    pub enums_same : (rows : List (List ℕ)) → is_enum_static classes field ≡ false → AreEnums classes number rows → AreEnums classes (number + 1) rows
    enums_same rows fails rows_are = record {
      as_many = rows_are.as_many;
      each = λ class within.
          rows_are.each class within ∙ sym (append-nil (enums_in classes number class))
          ∙ sym (row_more class false (ap (λ test. (field.class == class) && test) fails ∙ and_false (field.class == class)));
    }

    -- that is one
    pub enums_more : (rows after : List (List ℕ)) → is_enum_static classes field ≡ true → field.class < length classes → AreEnums classes number rows
        → after ≡ set rows field.class (get_or rows field.class [] ++ slot_of classes number ∷ []) → AreEnums classes (number + 1) after
    enums_more rows after passes low rows_are sets = record {
      as_many = ap length sets ∙ length-set rows field.class (get_or rows field.class [] ++ slot_of classes number ∷ []) ∙ rows_are.as_many;
      each = λ class within. ap (λ rows. get_or rows class []) sets ∙ at class within;
    } where
      at : (class : ℕ) → class < length classes → get_or (set rows field.class (get_or rows field.class [] ++ slot_of classes number ∷ [])) class [] ≡ enums_in classes (number + 1) class
      at class within = elim (cases_eq class field.class) [
        | inl same ↦
            ap (λ place. get_or (set rows field.class (get_or rows field.class [] ++ slot_of classes number ∷ [])) place []) same
            ∙ get_or-set_same rows field.class (get_or rows field.class [] ++ slot_of classes number ∷ []) [] (omega (arith, low, rows_are.as_many))
            ∙ ap (λ place. get_or rows place [] ++ slot_of classes number ∷ []) (sym same)
            ∙ ap (λ row. row ++ slot_of classes number ∷ []) (rows_are.each class within)
            ∙ sym (row_more class true (ap (λ test. test && is_enum_static classes field) (eq-eqb field.class class (sym same)) ∙ passes))
        | inr apart ↦
            get_or-set_other rows field.class class (get_or rows field.class [] ++ slot_of classes number ∷ []) [] apart ∙ rows_are.each class within
            ∙ sym (append-nil (enums_in classes number class))
            ∙ sym (row_more class false (ap (λ test. test && is_enum_static classes field) (ne_eqb field.class class (λ same. apart (sym same)))))
      ]
