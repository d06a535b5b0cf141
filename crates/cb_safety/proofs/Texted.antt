-- The texts of a linked program are of units of two bytes, and no longer than an array.
use Rattle.std.proofs.Common.{◌≡◌, arith, refl, sym, subst, ℕ, zero, suc, ◌+◌, ◌<◌, ◌≤◌, ◌^◌, Bool, true, false, List, [], ◌∷◌, length, nat_le, nat_lt, ◌&&◌, ◌/◌, ◌%◌, Option, Some, None, option_and_then, slice_get, if◌then◌else◌}
use Rattle.std.specs.List.{AllByRecursion, flat_map}
use Rattle.std.proofs.lemmas.Bool.{ltb-true}
use Rattle.std.proofs.lemmas.List.{length-append}
use Rattle.std.proofs.lemmas.Option.{same_Some}
use Rattle.cb_classfile.specs.Class.{IsWellFormed}
use Rattle.cb_classfile.specs.Flags.{acc_static}
use Rattle.cb_classfile.specs.Needed.{index_in}
use Rattle.cb_classfile.specs.declared.body.Body.{Body}
use Rattle.cb_classfile.specs.declared.class.ClassFile.{ClassFile}
use Rattle.cb_classfile.specs.declared.method.Method.{Method}
use Rattle.cb_hierarchy.specs.Classes.{listed}
use Rattle.cb_insn.specs.declared.insn.Insn.{Insn}
use Rattle.cb_link.specs.Having.{IsWhole}
use Rattle.cb_link.specs.Making.{body_texts, class_texts, divide_text, field_texts_of, insn_texts, is_load}
use Rattle.cb_link.specs.Numbers.{has_flag}
use Rattle.cb_link.specs.Program.{Linked}
use Rattle.cb_text.specs.Naming.{string_at, text_at, text_of_string, units_of}
use Rattle.cb_text.specs.Pool.{Fits, constant_at}
use Rattle.cb_text.specs.Text.{text_bytes, unit_bytes}
use Rattle.cb_text.specs.declared.constant.Constant.{Constant}
use Rattle.cb_text.specs.declared.constant.Constant.TheVariants as constants
use Rattle.cb_safety.specs.Strings.{IsText}
use Rattle.cb_safety.proofs.Assigned.{never}
use Rattle.cb_safety.proofs.Lettered.{all_firsts}
use Rattle.cb_safety.proofs.Lists.{all_at, all_both, all_given, all_lists}
use Rattle.cb_safety.proofs.Searching.{all_pass, all_weaker}

-- ---- a text of a pool

unit_long : (unit : ℕ) → 1 ≤ length (unit_bytes unit)
unit_long unit = go (nat_le 1 unit && nat_lt unit 0x80) (nat_lt unit 0x800) where
  go : (one two : Bool)
      → 1 ≤ length (if one then unit ∷ [] else if two then (0xC0 + unit / 0x40) ∷ (0x80 + unit % 0x40) ∷ [] else (0xE0 + unit / 0x1000) ∷ (0x80 + unit / 0x40 % 0x40) ∷ (0x80 + unit % 0x40) ∷ [])
  go true two = omega arith
  go false true = omega arith
  go false false = omega arith

pub units_long : (units : List ℕ) → length units ≤ length (text_bytes units)
units_long [] = omega arith
units_long (unit ∷ units) = omega (arith, unit_long unit, units_long units, length-append (unit_bytes unit) (text_bytes units))

utf8_text : (units : List ℕ) → Fits (constants.Utf8 units) → IsText units
utf8_text units fits = record { each = fits.0; few = let short = fits.1 in omega (arith, short, units_long units) }

fits_at : (pool : List Constant) (index : ℕ) (constant : Constant) → AllByRecursion Fits pool → constant_at pool index ≡ Some constant → Fits constant
fits_at pool zero constant all is = never is
fits_at pool (suc before) constant all is = all_at Fits pool before constant all is

pool_text : (pool : List Constant) (index : ℕ) (units : List ℕ) → AllByRecursion Fits pool → text_at pool index ≡ Some units → IsText units
pool_text pool index units all is = go (constant_at pool index) refl is where
  go : (found : Option Constant) → constant_at pool index ≡ found → option_and_then units_of found ≡ Some units → IsText units
  go None told is = never is
  go (Some (constants.Utf8 own)) told is = subst IsText (same_Some own units is) (utf8_text own (fits_at pool index (constants.Utf8 own) all told))
  go (Some other) told is = never is

through_text : (pool : List Constant) (found : Option ℕ) (units : List ℕ) → AllByRecursion Fits pool → option_and_then (text_at pool) found ≡ Some units → IsText units
through_text pool None units all is = never is
through_text pool (Some index) units all is = pool_text pool index units all is

listed_texts : (found : Option (List ℕ)) → ((units : List ℕ) → found ≡ Some units → IsText units) → AllByRecursion IsText (listed found)
listed_texts None each = tt
listed_texts (Some units) each = (each units refl, tt)

-- ---- those of a class

module _ (pool : List Constant) (all : AllByRecursion Fits pool) where
  index_texts : (index : Option ℕ) → AllByRecursion IsText (listed (option_and_then (string_at pool) index))
  index_texts None = tt
  index_texts (Some index) =
      listed_texts (string_at pool index) (λ units is. through_text pool (option_and_then text_of_string (constant_at pool index)) units all is)

  if_texts : (test : Bool) (index : Option ℕ) → AllByRecursion IsText (if test then listed (option_and_then (string_at pool) index) else [])
  if_texts true index = index_texts index
  if_texts false index = tt

  texts_of_body : (body : Option Body) → AllByRecursion IsText (body_texts pool body)
  texts_of_body None = tt
  texts_of_body (Some body) =
      all_lists IsText (λ (placed : ℕ × Insn). insn_texts pool placed.1) body.code (λ placed. if_texts (is_load placed.1.opcode) (index_in placed.1.operand))

texts_of_class : (class : ClassFile) → IsWellFormed class → AllByRecursion IsText (class_texts class)
texts_of_class class (bytes, spelled) =
    let fits : AllByRecursion Fits class.pool = spelled.behind.spelled.here.fit in
    all_both IsText _ _
    (all_lists IsText (field_texts_of class.pool) class.fields (λ field. if_texts class.pool fits (has_flag acc_static field.flags.0) field.constant))
    (all_lists IsText (λ (method : Method). body_texts class.pool method.body) class.methods (λ method. texts_of_body class.pool fits method.body))

-- ---- those of a program

divide_is : IsText divide_text
divide_is = record {
  each = all_weaker (λ (unit : ℕ). nat_lt unit (2 ^ 16) ≡ true) (λ (unit : ℕ). unit < 2 ^ 16) (λ unit is. ltb-true unit (2 ^ 16) is) divide_text (all_pass (λ (unit : ℕ). nat_lt unit (2 ^ 16)) divide_text refl);
  few = omega arith;
}

pub whole_texts : (program : Linked) → IsWhole program → AllByRecursion IsWellFormed program.classes → (text : ℕ) (units : List ℕ) → slice_get program.constants text ≡ Some units → IsText units
whole_texts program whole formed text units is =
    all_at IsText program.constants text units
    (subst (AllByRecursion IsText) (sym whole.texts) (all_firsts IsText (divide_text ∷ flat_map class_texts program.classes) (divide_is, all_given IsWellFormed IsText class_texts program.classes texts_of_class formed))) is
