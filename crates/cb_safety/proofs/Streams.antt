-- The streams of System, and what there is at the start of a program that is linked.
use Rattle.std.proofs.Common.{◌≡◌, ◌∙◌, ap, ap₂, arith, refl, sym, subst, ℕ, ◌+◌, Bool, true, cond, List, [], ◌∷◌, ◌++◌, filter, map, Option, Some, option_map, slice_get}
use Rattle.std.specs.Prelude.{codes}
use Rattle.std.specs.List.{AllZip, enumerate_from}
use Rattle.std.proofs.lemmas.Option.{option_and_then_some, same_Some, slice_get-map}
use Rattle.cb_classfile.specs.Flags.{acc_static}
use Rattle.cb_classfile.specs.Library.{IsRecordOf, SaysField}
use Rattle.cb_classfile.specs.Pool.{text_at}
use Rattle.cb_classfile.specs.declared.class.ClassFile.{ClassFile}
use Rattle.cb_classfile.specs.declared.field.Field.{Field}
use Rattle.cb_hierarchy.specs.declared.member.Field.{Field as RankedField}
use Rattle.cb_kinds.specs.Basics.{basic_of}
use Rattle.cb_kinds.specs.declared.basic.Basic.{Basic}
use Rattle.cb_kinds.specs.declared.basic.Basic.TheVariants as basics
use Rattle.cb_library.specs.Lang.{system_class}
use Rattle.cb_library.specs.Rows as rows
use Rattle.cb_link.specs.Having.{IsWhole}
use Rattle.cb_link.specs.Numbers.{Numbered, fields_of, has_flag, or_none, ranked_field}
use Rattle.cb_link.specs.Program.{Linked, linked_field}
use Rattle.cb_link.specs.Slots.{basic_of_field, static_basic, statics}
use Rattle.cb_link.specs.declared.linked.LinkedField.{LinkedField}
use Rattle.cb_machine.specs.Library as library
use Rattle.cb_machine.specs.Machine.{kind_of_site}
use Rattle.cb_machine.specs.Sites.{system_in, system_out}
use Rattle.cb_text.specs.declared.constant.Constant.{Constant}
use Rattle.cb_safety.specs.Kinds.{holds_kind}
use Rattle.cb_safety.specs.Linked.{IsLinked}
use Rattle.cb_safety.specs.Starting.{HasStart, HoldsObjects}
use Rattle.cb_safety.proofs.CoreKinds.{IsCore, are_arguments, argument_strings, core_number, in_empty, in_kind, out_empty, out_kind}
use Rattle.cb_kinds.proofs.Laws.{kind_number_of}
use Rattle.cb_safety.proofs.Exceptions.{IsRow, file_at}
use Rattle.cb_safety.proofs.Linking.{front, linked_whole}
use Rattle.cb_safety.proofs.OwnFields.{IsKept, kept_of}
use Rattle.cb_safety.proofs.OwnStatics.{HasOwnStatics, has_own_statics, is_static, statics_in}

-- ---- the two static fields of System

abbrev stream_field : List ℕ → List ℕ → rows.Field
stream_field name descriptor = record { flags = 25; name = name; descriptor = descriptor }

record AreTwo (pool : List Constant) (fields : List Field) : Type 0 where
  pub one : Field
  pub two : Field
  pub are : fields ≡ one ∷ two ∷ []
  pub out : SaysField pool (stream_field (codes "out") (codes "Ljava/io/PrintStream;")) one
  pub input : SaysField pool (stream_field (codes "in") (codes "Ljava/io/InputStream;")) two

are_two : (pool : List Constant) (fields : List Field) → AllZip (SaysField pool) system_class.fields fields → AreTwo pool fields
are_two pool [] are = absurd are
are_two pool (one ∷ []) are = absurd are.1
are_two pool (one ∷ two ∷ []) are = record { one = one; two = two; are = refl; out = are.0; input = are.1.0 }
are_two pool (one ∷ two ∷ three ∷ more) are = absurd are.1.1

abbrev numbered_as : ℕ → List Constant → ℕ × Field → Numbered Field
numbered_as number pool own = record { class = number; place = own.0; pool = pool; member = own.1 }

abbrev statics_by : ℕ → List Constant → List Field → List (Numbered Field)
statics_by number pool fields = filter is_static (map (numbered_as number pool) (enumerate_from 0 fields))

module _ (program : Linked) (is : IsLinked program) where
  whole : IsWhole program
  whole = linked_whole program is

  file : IsRow IsRecordOf (is.library ++ is.more) library.system system_class
  file = file_at is.library is.more is.is_library library.system system_class refl

  file_there : slice_get program.classes library.system ≡ Some file.item
  file_there = ap (λ (classes : List ClassFile). slice_get classes library.system) (front program is) ∙ file.there

  two : AreTwo file.item.pool file.item.fields
  two = are_two file.item.pool file.item.fields file.is.fields

  one_is : has_flag acc_static two.one.flags.0 ≡ true
  one_is = ap (has_flag acc_static) two.out.flags

  two_is : has_flag acc_static two.two.flags.0 ≡ true
  two_is = ap (has_flag acc_static) two.input.flags

  abbrev out_field : Numbered Field
  out_field = numbered_as library.system file.item.pool (0, two.one)

  abbrev in_field : Numbered Field
  in_field = numbered_as library.system file.item.pool (1, two.two)

  own_are : statics_in library.system file.item ≡ out_field ∷ in_field ∷ []
  own_are =
      ap (statics_by library.system file.item.pool) two.are
      ∙ ap₂ (λ (one two : Bool). cond one (out_field ∷ cond two (in_field ∷ []) []) (cond two (in_field ∷ []) [])) one_is two_is

  own : HasOwnStatics program library.system (out_field ∷ in_field ∷ [])
  own = subst (HasOwnStatics program library.system) own_are (has_own_statics program library.system file.item file_there)

  -- what a static field is, by its slot
  abbrev keeps : RankedField → Bool
  keeps field = field.is_static

  static_is : (slot : ℕ) (field : Numbered Field) (basic : Basic) → slice_get (filter is_static (fields_of program.classes)) slot ≡ Some field → static_basic program slot ≡ Some basic
      → basic ≡ (linked_field program.kinds field).basic
  static_is slot field basic stands declared =
      option_and_then_some (basic_of_field program) (slice_get (statics program.classes) slot) basic declared
      (λ number found gives.
      let entry : IsKept (ranked_field program.classes) keeps 0 (fields_of program.classes) slot number = kept_of (ranked_field program.classes) keeps 0 (fields_of program.classes) slot number found in
      let field_is : entry.item ≡ field = same_Some entry.item field (sym entry.kept ∙ stands) in
      let number_is : number ≡ entry.place = omega (arith, entry.is) in
      let there : basic_of_field program number ≡ Some (linked_field program.kinds field).basic =
      ap (λ (fields : List LinkedField). option_map (λ (field : LinkedField). field.basic) (slice_get fields number)) whole.fields
      ∙ ap (option_map (λ (field : LinkedField). field.basic))
      (slice_get-map (linked_field program.kinds) (fields_of program.classes) number
      ∙ ap (option_map (linked_field program.kinds)) (ap (slice_get (fields_of program.classes)) number_is ∙ entry.there ∙ ap {B = Option (Numbered Field)} Some field_is)) in
      same_Some basic (linked_field program.kinds field).basic (sym gives ∙ there))

  holds : (own_kind place : ℕ) (rest : List ℕ) (field : Field) (basic : Basic) → IsCore program own_kind place → basic_of program.kinds rest ≡ basics.Reference place
      → text_at file.item.pool field.descriptor ≡ Some rest → basic ≡ basic_of program.kinds (or_none (text_at file.item.pool field.descriptor)) → HoldsObjects program own_kind basic
  holds own_kind place rest field basic core named descriptor same = record {
    kind = place;
    is = same ∙ ap (λ (text : Option (List ℕ)). basic_of program.kinds (or_none text)) descriptor ∙ named;
    goes = subst (λ (kind : ℕ). holds_kind program kind place ≡ true) (sym core.is) core.own;
  }

  pub has_start : HasStart program
  has_start = record {
    array = are_arguments program is;
    strings = argument_strings program is;
    out = out_empty program is;
    input = in_empty program is;
    first = own.first;
    second = own.first + 1;
    slots = own.slots;
    holds_out = λ basic declared.
        holds (kind_of_site program system_out) 12 (codes "Ljava/io/PrintStream;") two.one basic (out_kind program is)
        (ap basics.Reference (kind_number_of program.kinds (codes "java/io/PrintStream") 12 (core_number program is (codes "java/io/PrintStream") 12 refl)))
        two.out.descriptor
        (static_is own.first out_field basic (ap (slice_get (filter is_static (fields_of program.classes))) (let same : own.first ≡ own.first + 0 = omega arith in same) ∙ own.there 0 out_field refl) declared);
    holds_in = λ basic declared.
        holds (kind_of_site program system_in) 13 (codes "Ljava/io/InputStream;") two.two basic (in_kind program is)
        (ap basics.Reference (kind_number_of program.kinds (codes "java/io/InputStream") 13 (core_number program is (codes "java/io/InputStream") 13 refl)))
        two.input.descriptor
        (static_is (own.first + 1) in_field basic (own.there 1 in_field refl) declared);
  }
