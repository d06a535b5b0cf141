-- Numbers that constants name fit the types of their values.
use Rattle.std.proofs.Common.{◌≡◌, refl, sym, subst, ℕ, zero, suc, pos, FitsSigned, IfSome, ◌<◌, ◌^◌, Bool, true, false, List, Option, Some, None, option_and_then, option_map, slice_get, if◌then◌else◌}
use Rattle.std.specs.Int.{Width, cast_signed, w32, w64}
use Rattle.std.specs.List.{AllByRecursion}
use Rattle.std.specs.Option.{option_or}
use Rattle.std.proofs.lemmas.Int.{SFits-int_wrap}
use mir.Val.{bits}
use Rattle.cb_arith.proofs.Wrapping.{int_wrap-pos}
use Rattle.cb_classfile.specs.Class.{IsWellFormed}
use Rattle.cb_classfile.specs.Needed.{index_in}
use Rattle.cb_hierarchy.specs.declared.member.Field.{Field as RankedField}
use Rattle.cb_insn.specs.declared.insn.Insn.{Insn}
use Rattle.cb_kinds.specs.Texts.{number_of}
use Rattle.cb_link.specs.Named.{code_in, constant_named, field_named, insn_in, member_named, named, named_at, or_nothing}
use Rattle.cb_link.specs.Numbers.{Numbered, methods_of, ranked_fields}
use Rattle.cb_link.specs.Program.{Linked}
use Rattle.cb_link.specs.Resolving.{found_field, found_method}
use Rattle.cb_link.specs.Slots.{slot_of}
use Rattle.cb_link.specs.declared.named.Named.{Named}
use Rattle.cb_link.specs.declared.named.Named.TheVariants as meanings
use Rattle.cb_classfile.specs.declared.method.Method.{Method}
use Rattle.cb_link.proofs.Laws.{chained, either, mapped}
use Rattle.cb_plain.specs.declared.value.Value.{Value}
use Rattle.cb_plain.specs.declared.value.Value.TheVariants as values
use Rattle.cb_text.specs.Naming.{MemberNames, class_at, int_at, int_of, long_at, long_of, member_at, string_at}
use Rattle.cb_text.specs.Pool.{Fits, constant_at}
use Rattle.cb_text.specs.declared.constant.Constant.{Constant}
use Rattle.cb_text.specs.declared.constant.Constant.TheVariants as constants
use Rattle.cb_text.specs.declared.naming.MemberKind.{MemberKind}
use Rattle.cb_text.specs.declared.naming.MemberKind.TheVariants as members
use Rattle.cb_safety.proofs.Assigned.{never}
use Rattle.cb_safety.proofs.Declared.{declared_by}
use Rattle.cb_safety.proofs.Lists.{all_at}

abbrev FitsValue : Value → Type 0
FitsValue (values.Int number) = FitsSigned w32 number
FitsValue (values.Long number) = FitsSigned w64 number
FitsValue other = Unit {0}

abbrev pub FitsNamed : Named → Type 0
FitsNamed (meanings.Whole value) = FitsValue value
FitsNamed other = Unit {0}

-- ---- those of a pool

pub cast_fits : (w : Width) (number : ℕ) → number < 2 ^ bits w → FitsSigned w (cast_signed w number)
cast_fits w number low = subst (FitsSigned w) (int_wrap-pos w number low) (SFits-int_wrap w (pos number))

pub fits_at : (pool : List Constant) (index : ℕ) (constant : Constant) → AllByRecursion Fits pool → constant_at pool index ≡ Some constant → Fits constant
fits_at pool zero constant all is = never is
fits_at pool (suc before) constant all is = all_at Fits pool before constant all is

module _ (pool : List Constant) (all : AllByRecursion Fits pool) (index : ℕ) where
  int_fits : IfSome (int_at pool index) (λ number. FitsSigned w32 number)
  int_fits = go (constant_at pool index) refl where
    go : (found : Option Constant) → constant_at pool index ≡ found → IfSome (option_and_then int_of found) (λ number. FitsSigned w32 number)
    go None told = tt
    go (Some (constants.Integer number)) told = cast_fits w32 number (fits_at pool index (constants.Integer number) all told)
    go (Some other) told = tt

  long_fits : IfSome (long_at pool index) (λ number. FitsSigned w64 number)
  long_fits = go (constant_at pool index) refl where
    go : (found : Option Constant) → constant_at pool index ≡ found → IfSome (option_and_then long_of found) (λ number. FitsSigned w64 number)
    go None told = tt
    go (Some (constants.Long number)) told = cast_fits w64 number (fits_at pool index (constants.Long number) all told)
    go (Some other) told = tt

-- ---- what a constant names

module _ (program : Linked) where
  abbrev as_field : ℕ → Option RankedField → Named
  as_field number None = meanings.Nothing
  as_field number (Some field) =
      if field.is_static then meanings.Static field.declared.class (slot_of program.classes number) else meanings.Field field.declared.class (slot_of program.classes number)

  field_fits : (number : ℕ) → FitsNamed (field_named program.classes number)
  field_fits number = go (slice_get (ranked_fields program.classes) number) where
    by : (field : RankedField) (test : Bool)
        → FitsNamed (if test then meanings.Static field.declared.class (slot_of program.classes number) else meanings.Field field.declared.class (slot_of program.classes number))
    by field true = tt
    by field false = tt

    go : (found : Option RankedField) → FitsNamed (as_field number found)
    go None = tt
    go (Some field) = by field field.is_static

  method_fits : (found : Option ℕ) → IfSome (option_map meanings.Method found) FitsNamed
  method_fits None = tt
  method_fits (Some method) = tt

  some_field : (found : Option ℕ) → IfSome (option_map (field_named program.classes) found) FitsNamed
  some_field None = tt
  some_field (Some number) = field_fits number

  member_fits : (member : MemberNames) → IfSome (member_named program.classes member) FitsNamed
  member_fits member = go member.kind refl where
    go : (kind : MemberKind) → member.kind ≡ kind → IfSome (member_named program.classes member) FitsNamed
    go members.Field is = rw is (some_field (found_field program.classes member))
    go members.Method is = rw is (method_fits (found_method program.classes member))
    go members.InterfaceMethod is = rw is (method_fits (found_method program.classes member))

  text_fits : (found : Option ℕ) → IfSome (option_map meanings.Text found) FitsNamed
  text_fits None = tt
  text_fits (Some text) = tt

  kind_fits : (found : Option ℕ) → IfSome (option_map meanings.Kind found) FitsNamed
  kind_fits None = tt
  kind_fits (Some kind) = tt

  constant_named_fits : (pool : List Constant) (index : ℕ) → AllByRecursion Fits pool → IfSome (constant_named program.classes program.kinds program.constants pool index) FitsNamed
  constant_named_fits pool index all =
      let ints : Option Named = option_map (λ number. meanings.Whole (values.Int number)) (int_at pool index) in
      let longs : Option Named = option_map (λ number. meanings.Whole (values.Long number)) (long_at pool index) in
      let texts : Option Named = option_map meanings.Text (option_and_then (number_of program.constants) (string_at pool index)) in
      let kinds : Option Named = option_map meanings.Kind (option_and_then (number_of program.kinds) (class_at pool index)) in
      let members : Option Named = option_and_then (member_named program.classes) (member_at pool index) in
      either FitsNamed ints (option_or longs (option_or texts (option_or kinds members)))
      (mapped FitsNamed (λ number. meanings.Whole (values.Int number)) (int_at pool index) (int_fits pool all index))
      (either FitsNamed longs (option_or texts (option_or kinds members))
      (mapped FitsNamed (λ number. meanings.Whole (values.Long number)) (long_at pool index) (long_fits pool all index))
      (either FitsNamed texts (option_or kinds members) (text_fits (option_and_then (number_of program.constants) (string_at pool index)))
      (either FitsNamed kinds members (kind_fits (option_and_then (number_of program.kinds) (class_at pool index)))
      (chained FitsNamed (member_named program.classes) (member_at pool index) member_fits))))

  nothing_or : (found : Option Named) → IfSome found FitsNamed → FitsNamed (or_nothing found)
  nothing_or None is = tt
  nothing_or (Some other) is = is

  named_at_fits : (pool : List Constant) (index : Option ℕ) → AllByRecursion Fits pool → FitsNamed (named_at program pool index)
  named_at_fits pool index all =
      let constant : ℕ → Option Named = constant_named program.classes program.kinds program.constants pool in
      nothing_or (option_and_then constant index) (chained FitsNamed constant index (λ index. constant_named_fits pool index all))

  -- and an instruction
  pub named_fits : AllByRecursion IsWellFormed program.classes → (method pc : ℕ) → FitsNamed (named program method pc)
  named_fits formed method pc = go (slice_get (methods_of program.classes) method) refl where
    go : (found : Option (Numbered Method)) → slice_get (methods_of program.classes) method ≡ found → FitsNamed (named program method pc)
    go None is = rw is tt
    go (Some own) is =
        let by = declared_by program.classes method own is in
        let well = all_at IsWellFormed program.classes own.class by.declaring formed by.there in
        rw is
        (named_at_fits own.pool (option_and_then (λ (insn : Insn). index_in insn.operand) (insn_in (code_in own.member.body) pc))
        (subst (AllByRecursion Fits) (sym by.pool) well.1.behind.spelled.here.fit))
