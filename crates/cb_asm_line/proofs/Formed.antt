-- Operands of a form, and what their words say.
use Rattle.std.proofs.Common.{◌≡◌, ◌≢◌, ◌∙◌, ap, sym, refl, arith, inl, inr, ℕ, zero, suc, ◌+◌, ◌<◌, ◌≤◌, ◌^◌, ◌&&◌, Bool, true, false, [], ◌∷◌, ◌++◌, length, get_or, slice_get, nat_lt, ◌-◌, Option, Some, None, option_and_then}
use Rattle.std.specs.Option.{unwrap_or}
use Rattle.std.proofs.lemmas.Bool.{ltb-false, ltb-true}
use Rattle.std.proofs.lemmas.Option.{slice_get-get_or}
use Rattle.cb_text.specs.declared.naming.MemberKind.{MemberKind}
use Rattle.cb_text.specs.declared.naming.MemberKind.TheVariants as kinds
use Rattle.cb_insn.specs.Forms.{form_of, head_form, widened}
use Rattle.cb_insn.specs.declared.form.Form.{Form}
use Rattle.cb_insn.specs.declared.form.Form.TheVariants as forms
use Rattle.cb_classfile.specs.declared.needed.ConstantKind.{ConstantKind}
use Rattle.cb_classfile.specs.declared.needed.ConstantKind.TheVariants as needed
use Rattle.cb_asm_line.specs.Mnemonics.{mnemonic, mnemonics}
use Rattle.cb_asm_line.specs.Operands.{HasForm, Names, NamesKind, kind_words, member_words, operand_words, value_words}
use Rattle.cb_asm_line.specs.Quoting.{name_word}
use Rattle.cb_asm_line.specs.Said.{SaysValue, Three, Two}
use Rattle.cb_asm_line.specs.SaidCode.{SaysAnyMethod, SaysForm, SaysInterface, SaysKind, SaysMember, SaysNamed}
use Rattle.cb_asm_line.specs.Statements.{IsMember, IsOperand, IsValue}
use Rattle.cb_asm_line.specs.declared.operand.MemberText.{MemberText}
use Rattle.cb_asm_line.specs.declared.operand.Operand.{Operand}
use Rattle.cb_asm_line.specs.declared.operand.Operand.TheVariants.{Nothing, Number, Local, Increase, Load, Member, Class, Array, Dimensions, Branch, Table, Lookup}
use Rattle.cb_asm_line.specs.declared.operand.Value.{Value}
use Rattle.cb_asm_line.specs.declared.operand.Value.TheVariants as values

-- no instruction stands above the last name
is_none : Option Form → Bool
is_none None = true
is_none (Some form) = false

all_none : ℕ → ℕ → Bool
all_none zero opcode = true
all_none (suc count) opcode = is_none (form_of opcode) && all_none count (suc opcode)

above : all_none 54 202 ≡ true
unfolding all_none is_none
above = refl

none_at : (count opcode k : ℕ) → all_none count opcode ≡ true → k < count → form_of (opcode + k) ≡ None
unfolding all_none is_none
none_at zero opcode k all below = absurd (omega (arith, below))
none_at (suc count) opcode k all below = by_form (form_of opcode) refl all k below (λ rest each under. none_at count (suc opcode) each rest under)
  where
    by_form : (form : Option Form) → form_of opcode ≡ form → (is_none form && all_none count (suc opcode)) ≡ true → (k : ℕ) → k < suc count
        → (all_none count (suc opcode) ≡ true → (each : ℕ) → each < count → form_of (suc opcode + each) ≡ None) → form_of (opcode + k) ≡ None
    by_form (Some form) is all k below others = absurd (cc all)
    by_form None is all zero below others = let here : opcode + 0 ≡ opcode = omega arith in ap form_of here ∙ is
    by_form None is all (suc k) below others = let there : opcode + suc k ≡ suc opcode + k = omega arith in ap form_of there ∙ others all k (omega (arith, below))

none_above : (opcode : ℕ) → 202 ≤ opcode → opcode < 2 ^ 8 → form_of opcode ≡ None
none_above opcode least fits = let there : opcode ≡ 202 + (opcode - 202) = omega (arith, least) in ap form_of there ∙ none_at 54 202 (opcode - 202) above (omega (arith, least, fits))

no_head : (wide : Bool) (opcode : ℕ) → 202 ≤ opcode → opcode < 2 ^ 8 → head_form wide opcode ≡ None
no_head true opcode least fits = ap (option_and_then widened) (none_above opcode least fits)
no_head false opcode least fits = none_above opcode least fits

-- the opcode of a form has a name
pub named : (wide : Bool) (opcode : ℕ) (form : Form) → opcode < 2 ^ 8 → head_form wide opcode ≡ Some form → slice_get mnemonics opcode ≡ Some (mnemonic opcode)
named wide opcode form fits formed = by_test (nat_lt opcode 202) refl
  where
    counted : length mnemonics ≡ 202
    counted = refl

    by_test : (test : Bool) → nat_lt opcode 202 ≡ test → slice_get mnemonics opcode ≡ Some (mnemonic opcode)
    by_test true told =
        let below : opcode < 202 = ltb-true opcode 202 told in
        let found : slice_get mnemonics opcode ≡ Some (get_or mnemonics opcode []) = slice_get-get_or mnemonics opcode [] (omega (arith, counted, below)) in
        found ∙ ap Some (sym (ap (λ each. unwrap_or each []) found))
    by_test false told =
        let none : head_form wide opcode ≡ None = no_head wide opcode (ltb-false opcode 202 told) fits in absurd (cc (none, formed))

-- a constant says its words
pub value_said : (value : Value) → IsValue value → Two SaysValue (value_words value) value
value_said (values.Int number) is = record { first = _; second = _; are = refl; says = (refl, record { fits = is; spelled = refl }) }
value_said (values.Long number) is = record { first = _; second = _; are = refl; says = (refl, record { fits = is; spelled = refl }) }
value_said (values.Text text) is = record { first = _; second = _; are = refl; says = (refl, record { units = is; spelled = refl }) }
value_said (values.Class name) is = record { first = _; second = _; are = refl; says = (refl, record { units = is; spelled = refl }) }

-- the three names of a member, behind its words
names_said : (kind : MemberKind) (member : MemberText) → member.kind ≡ kind → IsMember member → Three (SaysMember kind) (name_word member.class ∷ name_word member.name ∷ name_word member.descriptor ∷ []) member
names_said kind member has is = record {
  first = _;
  second = _;
  third = _;
  are = refl;
  says = record { is = has; class = record { units = is.0; spelled = refl }; name = record { units = is.1; spelled = refl }; descriptor = record { units = is.2; spelled = refl } };
}

words_of_kind : (kind : MemberKind) (member : MemberText) → member.kind ≡ kind → member_words member ≡ kind_words kind ++ (name_word member.class ∷ name_word member.name ∷ name_word member.descriptor ∷ [])
words_of_kind kind member has = ap (λ each. kind_words each ++ (name_word member.class ∷ name_word member.name ∷ name_word member.descriptor ∷ [])) has

field_said : (member : MemberText) → member.kind ≡ kinds.Field → IsMember member → Three (SaysMember kinds.Field) (member_words member) member
field_said member has is = rw (words_of_kind kinds.Field member has) (names_said kinds.Field member has is)

method_said : (member : MemberText) → member.kind ≡ kinds.Method → IsMember member → Three (SaysMember kinds.Method) (member_words member) member
method_said member has is = rw (words_of_kind kinds.Method member has) (names_said kinds.Method member has is)

interface_said : (member : MemberText) → member.kind ≡ kinds.InterfaceMethod → IsMember member → SaysInterface (member_words member) member
interface_said member has is = record { rest = _; are = words_of_kind kinds.InterfaceMethod member has; says = names_said kinds.InterfaceMethod member has is }

any_said : (member : MemberText) (kind : MemberKind) → member.kind ≡ kind → member.kind ≢ kinds.Field → IsMember member → SaysAnyMethod (member_words member) member
any_said member kinds.Field has other is = absurd (other has)
any_said member kinds.Method has other is = inr (method_said member has is)
any_said member kinds.InterfaceMethod has other is = inl (interface_said member has is)

kind_said : (kind : ConstantKind) (operand : Operand) → Names kind operand → IsOperand operand → SaysNamed kind (operand_words operand) operand
kind_said needed.Loadable (Load value) names is = record { part = value; is = refl; says = value_said value is }
kind_said needed.Wide (Load value) names is = record { part = value; is = refl; says = value_said value is }
kind_said needed.Class (Class name) names is = record { part = name; is = refl; says = record { first = _; are = refl; says = record { units = is; spelled = refl } } }
kind_said needed.Field (Member member) names is = record { part = member; is = refl; says = field_said member names is }
kind_said needed.ClassMethod (Member member) names is = record { part = member; is = refl; says = method_said member names is }
kind_said needed.AnyMethod (Member member) names is = record { part = member; is = refl; says = any_said member member.kind refl names is }
kind_said needed.InterfaceMethod (Member member) names is = record { part = member; is = refl; says = interface_said member names is }
kind_said kind operand names is = absurd names

optional_said : (kind : Option ConstantKind) (operand : Operand) → NamesKind kind operand → IsOperand operand → SaysKind kind (operand_words operand) operand
optional_said None operand names is = absurd names
optional_said (Some kind) operand names is = kind_said kind operand names is

-- an operand of a form says its words
pub form_said : (kind : Option ConstantKind) (form : Form) (operand : Operand) → HasForm kind form operand → IsOperand operand → SaysForm kind form (operand_words operand) operand
form_said kind forms.Plain Nothing has is = record { is = refl; are = refl }
form_said kind forms.Byte (Number number) has is = record { part = number; is = refl; says = record { first = _; are = refl; says = record { fits = is; spelled = refl } } }
form_said kind forms.Short (Number number) has is = record { part = number; is = refl; says = record { first = _; are = refl; says = record { fits = is; spelled = refl } } }
form_said kind forms.PoolByte operand has is = optional_said kind operand has is
form_said kind forms.Pool operand has is = optional_said kind operand has is
form_said kind forms.Interface operand has is = optional_said kind operand has is
form_said kind forms.Local (Local local) has is = record { part = local; is = refl; says = record { first = _; are = refl; says = record { fits = is; spelled = refl } } }
form_said kind forms.WideLocal (Local local) has is = record { part = local; is = refl; says = record { first = _; are = refl; says = record { fits = is; spelled = refl } } }
form_said kind forms.Increase (Increase local by) has is =
    record { part = (local, by); is = refl; says = record { first = _; second = _; are = refl; says = record { local = record { fits = is.0; spelled = refl }; by = record { fits = is.1; spelled = refl } } } }
form_said kind forms.WideIncrease (Increase local by) has is =
    record { part = (local, by); is = refl; says = record { first = _; second = _; are = refl; says = record { local = record { fits = is.0; spelled = refl }; by = record { fits = is.1; spelled = refl } } } }
form_said kind forms.Branch (Branch label) has is = record { part = label; is = refl; says = record { first = _; are = refl; says = record { digits = is; spelled = refl } } }
form_said kind forms.LongBranch (Branch label) has is = record { part = label; is = refl; says = record { first = _; are = refl; says = record { digits = is; spelled = refl } } }
form_said kind forms.ArrayCode (Array code) has is = record { part = code; is = refl; says = record { first = _; are = refl; says = record { least = has.0; most = has.1; spelled = refl } } }
form_said kind forms.Dimensions (Dimensions name dimensions) has is =
    record { part = (name, dimensions); is = refl; says = record { first = _; second = _; are = refl; says = record { class = record { units = is.0; spelled = refl }; dimensions = record { fits = is.1; spelled = refl } } } }
form_said kind forms.Table (Table low default labels) has is = record {
  part = (low, default, labels);
  is = refl;
  says = record { first = _; second = _; rest = _; have = refl; low = record { fits = is.0; spelled = refl }; default = record { digits = is.1; spelled = refl }; labels = record { each = is.2; are = refl } };
}
form_said kind forms.Lookup (Lookup default pairs) has is =
    record { part = (default, pairs); is = refl; says = record { first = _; rest = _; have = refl; default = record { digits = is.0; spelled = refl }; pairs = record { each = is.1; are = refl } } }
form_said kind form operand has is = absurd has
