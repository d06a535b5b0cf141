-- What the static fields of a program that is linked have at first is of their types.
use Rattle.std.proofs.Common.{◌≡◌, ◌∙◌, inl, inr, ap, refl, sym, subst, ℕ, ℤ, List, [], ◌∷◌, Option, Some, None, IfSome, option_and_then, option_map, slice_get}
use Rattle.std.specs.Prelude.{IsSomeAnd, codes}
use Rattle.std.specs.Int.{cast_signed, w32, w64}
use Rattle.std.specs.List.{AllByRecursion}
use Rattle.std.specs.Option.{option_or}
use Rattle.std.proofs.lemmas.Option.{option_and_then_some, slice_get-map}
use Rattle.cb_text.specs.Naming.{int_of, long_of, member_from, member_of, name_of_class, text_at, text_of_string}
use Rattle.cb_text.specs.Pool.{Fits, constant_at}
use Rattle.cb_text.specs.declared.constant.Constant.{Constant}
use Rattle.cb_text.specs.declared.constant.Constant.TheVariants as constants
use Rattle.cb_classfile.specs.Attributes.{SpellsOnce}
use Rattle.cb_classfile.specs.Class.{IsWellFormed}
use Rattle.cb_classfile.specs.Members.{IsNarrow, IsValueOf, SpellsField, SpellsValue}
use Rattle.cb_classfile.specs.Tables.{SpellsEach}
use Rattle.cb_classfile.specs.declared.class.ClassFile.{ClassFile}
use Rattle.cb_classfile.specs.declared.field.Field.{Field}
use Rattle.cb_kinds.specs.Basics.{basic_of}
use Rattle.cb_kinds.specs.Texts.{number_of}
use Rattle.cb_kinds.specs.declared.basic.Basic.{Basic}
use Rattle.cb_kinds.specs.declared.basic.Basic.TheVariants as basics
use Rattle.cb_link.proofs.Laws.{placed}
use Rattle.cb_link.specs.Having.{IsWhole}
use Rattle.cb_link.specs.Named.{member_named, named_at, or_nothing, static_initial}
use Rattle.cb_link.specs.Numbers.{Numbered, fields_of, or_none}
use Rattle.cb_link.specs.Places.{IsPlaced}
use Rattle.cb_link.specs.Program.{Linked, linked_field}
use Rattle.cb_link.specs.Slots.{basic_of_field, statics}
use Rattle.cb_link.specs.declared.linked.LinkedField.{LinkedField}
use Rattle.cb_link.specs.declared.named.Named.{Named}
use Rattle.cb_link.specs.declared.named.Named.TheVariants as meanings
use Rattle.cb_machine.specs.Values.{sort_of_basic}
use Rattle.cb_plain.specs.declared.value.Value.TheVariants as values
use Rattle.cb_shapes.specs.declared.sort.Sort.TheVariants as sorts
use Rattle.cb_verify.specs.Within.{kind_of_string}
use Rattle.cb_safety.specs.Linked.{IsLinked}
use Rattle.cb_safety.specs.Strings.{HasConstants, IsInitial}
use Rattle.cb_safety.proofs.Assigned.{mapped}
use Rattle.cb_safety.proofs.CoreKinds.{constant_strings, string_is}
use Rattle.cb_safety.proofs.Fitting.{cast_fits, fits_at}
use Rattle.cb_safety.proofs.Linking.{linked_formed, linked_whole}
use Rattle.cb_safety.proofs.Lists.{all_at}
use Rattle.cb_safety.proofs.Texted.{whole_texts}

-- ---- the value of a field of a class that is well formed

record HasValue (pool : List Constant) (descriptor index : ℕ) : Type 0 where
  pub constant : Constant
  pub there : constant_at pool index ≡ Some constant
  pub text : List ℕ
  pub told : text_at pool descriptor ≡ Some text
  pub is : IsValueOf text constant

abbrev HaveValue : List Constant → Field → Type 0
HaveValue pool field = IfSome field.constant (HasValue pool field.descriptor)

has_value : (pool : List Constant) (descriptor index : ℕ) → IsSomeAnd (constant_at pool index) (λ constant. IsSomeAnd (text_at pool descriptor) (λ text. IsValueOf text constant))
    → HasValue pool descriptor index
has_value pool descriptor index is = go (constant_at pool index) refl (text_at pool descriptor) refl is where
  go : (constant : Option Constant) → constant_at pool index ≡ constant → (text : Option (List ℕ)) → text_at pool descriptor ≡ text
      → IsSomeAnd constant (λ constant. IsSomeAnd text (λ text. IsValueOf text constant)) → HasValue pool descriptor index
  go None there text told is = absurd is
  go (Some constant) there None told is = absurd is
  go (Some constant) there (Some text) told is = record { constant = constant; there = there; text = text; told = told; is = is }

once_value : (pool : List Constant) (descriptor : ℕ) (contents : List (List ℕ)) (constant : Option ℕ) → SpellsOnce (SpellsValue pool descriptor) contents constant
    → IfSome constant (HasValue pool descriptor)
once_value pool descriptor contents None is = tt
once_value pool descriptor [] (Some index) is = absurd is
once_value pool descriptor (first ∷ []) (Some index) is = has_value pool descriptor index is.value
once_value pool descriptor (first ∷ second ∷ more) (Some index) is = absurd is

fields_have : (pool : List Constant) (bytes : List ℕ) (fields : List Field) → SpellsEach (SpellsField pool) bytes fields → AllByRecursion (HaveValue pool) fields
fields_have pool bytes [] spells = tt
fields_have pool bytes (field ∷ fields) (first, rest, spells, more, is) = (once_value pool field.descriptor _ field.constant spells.constant, fields_have pool rest fields more)

record HasValues (class : ClassFile) : Type 0 where
  pub fit : AllByRecursion Fits class.pool
  pub have : AllByRecursion (HaveValue class.pool) class.fields

has_values : (class : ClassFile) → IsWellFormed class → HasValues class
has_values class (bytes, spelled) =
    let contents = spelled.behind in
    let tables = contents.spelled.behind.spelled.behind.behind.here in
    record { fit = contents.spelled.here.fit; have = fields_have class.pool tables.entries class.fields tables.each }

-- ---- what its constant names

module _ (program : Linked) (string : basic_of program.kinds (codes "Ljava/lang/String;") ≡ basics.Reference kind_of_string) (pool : List Constant) where
  abbrev named_by : Option Constant → Named
  named_by found =
      or_nothing (option_or (option_map (λ (number : ℤ). meanings.Whole (values.Int number)) (option_and_then int_of found))
      (option_or (option_map (λ (number : ℤ). meanings.Whole (values.Long number)) (option_and_then long_of found))
      (option_or (option_map meanings.Text (option_and_then (number_of program.constants) (option_and_then (text_at pool) (option_and_then text_of_string found))))
      (option_or (option_map meanings.Kind (option_and_then (number_of program.kinds) (option_and_then (text_at pool) (option_and_then name_of_class found))))
      (option_and_then (member_named program.classes) (option_and_then (member_from pool) (option_and_then member_of found)))))))

  narrow_sort : (text : List ℕ) → IsNarrow text → sort_of_basic (basic_of program.kinds text) ≡ sorts.Int
  narrow_sort text (inl int) = ap (λ (text : List ℕ). sort_of_basic (basic_of program.kinds text)) int
  narrow_sort text (inr (inl short)) = ap (λ (text : List ℕ). sort_of_basic (basic_of program.kinds text)) short
  narrow_sort text (inr (inr (inl char))) = ap (λ (text : List ℕ). sort_of_basic (basic_of program.kinds text)) char
  narrow_sort text (inr (inr (inr (inl byte)))) = ap (λ (text : List ℕ). sort_of_basic (basic_of program.kinds text)) byte
  narrow_sort text (inr (inr (inr (inr boolean)))) = ap (λ (text : List ℕ). sort_of_basic (basic_of program.kinds text)) boolean

  text_named : (found : Option ℕ) → IsInitial (basics.Reference kind_of_string) (or_nothing (option_or (option_map meanings.Text found) None))
  text_named None = IsInitial.Nothing (basics.Reference kind_of_string)
  text_named (Some text) = IsInitial.AString text

  initial_by : (text : List ℕ) (constant : Constant) → Fits constant → IsValueOf text constant → IsInitial (basic_of program.kinds text) (named_by (Some constant))
  initial_by text (constants.Long number) fits is =
      subst (λ (text : List ℕ). IsInitial (basic_of program.kinds text) (meanings.Whole (values.Long (cast_signed w64 number)))) (sym is)
      (IsInitial.ALong (cast_signed w64 number) (cast_fits w64 number fits))
  initial_by text (constants.Float bits) fits is = IsInitial.Nothing (basic_of program.kinds text)
  initial_by text (constants.Double bits) fits is = IsInitial.Nothing (basic_of program.kinds text)
  initial_by text (constants.Integer number) fits is =
      IsInitial.AnInt (basic_of program.kinds text) (cast_signed w32 number) (narrow_sort text is) (cast_fits w32 number fits)
  initial_by text (constants.String at) fits is =
      subst (λ (basic : Basic). IsInitial basic (named_by (Some (constants.String at)))) (sym (ap (basic_of program.kinds) is ∙ string))
      (text_named (option_and_then (number_of program.constants) (text_at pool at)))
  initial_by text other fits is = absurd is

  initial_at : (descriptor : ℕ) → AllByRecursion Fits pool → (constant : Option ℕ) → IfSome constant (HasValue pool descriptor)
      → IsInitial (basic_of program.kinds (or_none (text_at pool descriptor))) (named_at program pool constant)
  initial_at descriptor all None has = IsInitial.Nothing (basic_of program.kinds (or_none (text_at pool descriptor)))
  initial_at descriptor all (Some index) has =
      subst (λ (named : Named). IsInitial (basic_of program.kinds (or_none (text_at pool descriptor))) named) (sym (ap named_by has.there))
      (subst (λ (text : Option (List ℕ)). IsInitial (basic_of program.kinds (or_none text)) (named_by (Some has.constant))) (sym has.told)
      (initial_by has.text has.constant (fits_at pool index has.constant all has.there) has.is))

-- ---- a static field

abbrev initial_of : Linked → Option (Numbered Field) → Named
initial_of program None = meanings.Nothing
initial_of program (Some field) = named_at program field.pool field.member.constant

module _ (program : Linked) (is : IsLinked program) where
  whole : IsWhole program
  whole = linked_whole program is

  field_initial : (own : Numbered Field) → IsPlaced (λ (class : ClassFile). class.fields) program.classes own
      → IsInitial (linked_field program.kinds own).basic (named_at program own.pool own.member.constant)
  field_initial own at =
      let values : HasValues at.declaring = has_values at.declaring (all_at IsWellFormed program.classes own.class at.declaring (linked_formed program is) at.declares) in
      subst (λ (pool : List Constant). IsInitial (basic_of program.kinds (or_none (text_at pool own.member.descriptor))) (named_at program pool own.member.constant)) (sym at.of_pool)
      (initial_at program (string_is program is) at.declaring.pool own.member.descriptor values.fit own.member.constant
      (all_at (HaveValue at.declaring.pool) at.declaring.fields own.place own.member values.have at.lists))

  static_is : (slot number : ℕ) (basic : Basic) → slice_get (statics program.classes) slot ≡ Some number → basic_of_field program number ≡ Some basic
      → IsInitial basic (static_initial program slot)
  static_is slot number basic stands own =
      mapped (λ (field : LinkedField). field.basic) (slice_get program.fields number) basic own
      (λ field there same.
      mapped (linked_field program.kinds) (slice_get (fields_of program.classes) number) field
      (sym (ap (λ (fields : List LinkedField). slice_get fields number) whole.fields ∙ slice_get-map (linked_field program.kinds) (fields_of program.classes) number) ∙ there)
      (λ numbered found also.
      subst (λ (named : Named). IsInitial basic named) (sym (ap (initial_of program) (ap (option_and_then (slice_get (fields_of program.classes))) stands ∙ found)))
      (subst (λ (basic : Basic). IsInitial basic (named_at program numbered.pool numbered.member.constant)) (ap (λ (field : LinkedField). field.basic) also ∙ same)
      (field_initial numbered (placed (λ (class : ClassFile). class.fields) program.classes number numbered found)))))

  pub has_constants : HasConstants program
  has_constants = record {
    strings = constant_strings program is;
    texts = whole_texts program whole (linked_formed program is);
    initial = λ slot basic declared.
        option_and_then_some (basic_of_field program) (slice_get (statics program.classes) slot) basic declared (λ number stands own. static_is slot number basic stands own);
  }
