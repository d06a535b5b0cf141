-- What the words of an operand say is an operand of the form, and these are its words.
use Rattle.std.proofs.Common.{◌≡◌, ◌≢◌, ◌∙◌, ap, sym, refl, inl, inr, codes, [], ◌∷◌, ◌++◌, Option, Some, None}
use Rattle.cb_text.specs.declared.naming.MemberKind.{MemberKind}
use Rattle.cb_text.specs.declared.naming.MemberKind.TheVariants as kinds
use Rattle.cb_insn.specs.declared.form.Form.{Form}
use Rattle.cb_insn.specs.declared.form.Form.TheVariants as forms
use Rattle.cb_classfile.specs.declared.needed.ConstantKind.{ConstantKind}
use Rattle.cb_classfile.specs.declared.needed.ConstantKind.TheVariants as needed
use Rattle.cb_asm_line.specs.Lines.{Line, Word}
use Rattle.cb_asm_line.specs.Numbers.{decimal, signed_decimal}
use Rattle.cb_asm_line.specs.Operands.{HasForm, Names, NamesKind, kind_words, label_word, member_words, operand_words, value_words}
use Rattle.cb_asm_line.specs.Quoting.{name_word}
use Rattle.cb_asm_line.specs.Said.{SaysValue, Three, Two}
use Rattle.cb_asm_line.specs.SaidCode.{SaysAnyMethod, SaysForm, SaysInterface, SaysKind, SaysMember, SaysNamed}
use Rattle.cb_asm_line.specs.Statements.{IsMember, IsOperand, IsValue}
use Rattle.cb_asm_line.specs.declared.operand.MemberText.{MemberText}
use Rattle.cb_asm_line.specs.declared.operand.Operand.{Operand}
use Rattle.cb_asm_line.specs.declared.operand.Operand.TheVariants.{Member}
use Rattle.cb_asm_line.specs.declared.operand.Value.{Value}
use Rattle.cb_asm_line.specs.declared.operand.Value.TheVariants as values

pub record IsWorth (words : Line) (value : Value) : Type 0 where
  pub is : IsValue value
  pub are : words ≡ value_words value

value_by : (first second : Word) (words : Line) (value : Value) → words ≡ first ∷ second ∷ [] → SaysValue first second value → IsWorth words value
value_by first second words (values.Int number) are says = record { is = says.1.fits; are = are ∙ ap (λ kind. kind ∷ second ∷ []) says.0 ∙ ap (λ word. codes "int" ∷ word ∷ []) says.1.spelled }
value_by first second words (values.Long number) are says = record { is = says.1.fits; are = are ∙ ap (λ kind. kind ∷ second ∷ []) says.0 ∙ ap (λ word. codes "long" ∷ word ∷ []) says.1.spelled }
value_by first second words (values.Text text) are says = record { is = says.1.units; are = are ∙ ap (λ kind. kind ∷ second ∷ []) says.0 ∙ ap (λ word. codes "text" ∷ word ∷ []) says.1.spelled }
value_by first second words (values.Class name) are says = record { is = says.1.units; are = are ∙ ap (λ kind. kind ∷ second ∷ []) says.0 ∙ ap (λ word. codes "class" ∷ word ∷ []) says.1.spelled }

pub value_worth : (words : Line) (value : Value) → Two SaysValue words value → IsWorth words value
value_worth words value told = value_by told.first told.second words value told.are told.says

-- members
pub record IsMemberOf (kind : MemberKind) (words : Line) (member : MemberText) : Type 0 where
  pub has : member.kind ≡ kind
  pub is : IsMember member
  pub are : words ≡ member_words member

three_names : (kind : MemberKind) (words : Line) (member : MemberText) → Three (SaysMember kind) words member → words ≡ name_word member.class ∷ name_word member.name ∷ name_word member.descriptor ∷ []
three_names kind words member told =
    told.are ∙ ap (λ word. word ∷ told.second ∷ told.third ∷ []) told.says.class.spelled ∙ ap (λ word. name_word member.class ∷ word ∷ told.third ∷ []) told.says.name.spelled ∙ ap (λ word. name_word member.class ∷ name_word member.name ∷ word ∷ []) told.says.descriptor.spelled

member_behind : (kind : MemberKind) (words front : Line) (member : MemberText) → kind_words kind ≡ front → words ≡ front ++ (name_word member.class ∷ name_word member.name ∷ name_word member.descriptor ∷ []) → member.kind ≡ kind → words ≡ member_words member
member_behind kind words front member is are has = are ∙ ap (λ each. each ++ (name_word member.class ∷ name_word member.name ∷ name_word member.descriptor ∷ [])) (sym is ∙ ap kind_words (sym has))

plain_worth : (kind : MemberKind) (words : Line) (member : MemberText) → kind_words kind ≡ [] → Three (SaysMember kind) words member → IsMemberOf kind words member
plain_worth kind words member plain told = record {
  has = told.says.is;
  is = (told.says.class.units, told.says.name.units, told.says.descriptor.units);
  are = member_behind kind words [] member plain (three_names kind words member told) told.says.is;
}

interface_worth : (words : Line) (member : MemberText) → SaysInterface words member → IsMemberOf kinds.InterfaceMethod words member
interface_worth words member told = record {
  has = told.says.says.is;
  is = (told.says.says.class.units, told.says.says.name.units, told.says.says.descriptor.units);
  are = member_behind kinds.InterfaceMethod words (codes "interface" ∷ []) member refl (told.are ∙ ap (λ rest. codes "interface" ∷ rest) (three_names kinds.InterfaceMethod told.rest member told.says)) told.says.says.is;
}

-- an operand of the form, with its words
pub record IsFormed (kind : Option ConstantKind) (form : Form) (words : Line) (operand : Operand) : Type 0 where
  pub has : HasForm kind form operand
  pub is : IsOperand operand
  pub are : words ≡ operand_words operand

record IsNamed (kind : ConstantKind) (words : Line) (operand : Operand) : Type 0 where
  pub has : Names kind operand
  pub is : IsOperand operand
  pub are : words ≡ operand_words operand

not_field : (member : MemberText) (kind : MemberKind) → (kind ≡ kinds.Field → ⊥) → member.kind ≡ kind → member.kind ≢ kinds.Field
not_field member kind other has is = other (sym has ∙ is)

any_worth : (words : Line) (member : MemberText) → SaysAnyMethod words member → IsNamed needed.AnyMethod words (Member member)
any_worth words member (inl says) = let told = interface_worth words member says in record { has = not_field member kinds.InterfaceMethod (λ is. absurd (cc is)) told.has; is = told.is; are = told.are }
any_worth words member (inr says) = let told = plain_worth kinds.Method words member refl says in record { has = not_field member kinds.Method (λ is. absurd (cc is)) told.has; is = told.is; are = told.are }

kind_worth : (kind : ConstantKind) (words : Line) (operand : Operand) → SaysNamed kind words operand → IsNamed kind words operand
kind_worth needed.Loadable words operand told = let worth = value_worth words told.part told.says in rw told.is (record { has = tt; is = worth.is; are = worth.are })
kind_worth needed.Wide words operand told = let worth = value_worth words told.part told.says in rw told.is (record { has = tt; is = worth.is; are = worth.are })
kind_worth needed.Class words operand told = rw told.is (record { has = tt; is = told.says.says.units; are = told.says.are ∙ ap (λ word. word ∷ []) told.says.says.spelled })
kind_worth needed.Field words operand told = let worth = plain_worth kinds.Field words told.part refl told.says in rw told.is (record { has = worth.has; is = worth.is; are = worth.are })
kind_worth needed.ClassMethod words operand told = let worth = plain_worth kinds.Method words told.part refl told.says in rw told.is (record { has = worth.has; is = worth.is; are = worth.are })
kind_worth needed.AnyMethod words operand told = rw told.is (any_worth words told.part told.says)
kind_worth needed.InterfaceMethod words operand told = let worth = interface_worth words told.part told.says in rw told.is (record { has = worth.has; is = worth.is; are = worth.are })
kind_worth needed.Dynamic words operand told = absurd told

record IsOptional (kind : Option ConstantKind) (words : Line) (operand : Operand) : Type 0 where
  pub has : NamesKind kind operand
  pub is : IsOperand operand
  pub are : words ≡ operand_words operand

optional_worth : (kind : Option ConstantKind) (words : Line) (operand : Operand) → SaysKind kind words operand → IsOptional kind words operand
optional_worth None words operand told = absurd told
optional_worth (Some kind) words operand told = let worth = kind_worth kind words operand told in record { has = worth.has; is = worth.is; are = worth.are }

pub form_worth : (kind : Option ConstantKind) (form : Form) (words : Line) (operand : Operand) → SaysForm kind form words operand → IsFormed kind form words operand
form_worth kind forms.Plain words operand told = rw told.is (record { has = tt; is = tt; are = told.are })
form_worth kind forms.Byte words operand told = rw told.is (record { has = tt; is = told.says.says.fits; are = told.says.are ∙ ap (λ word. word ∷ []) told.says.says.spelled })
form_worth kind forms.Short words operand told = rw told.is (record { has = tt; is = told.says.says.fits; are = told.says.are ∙ ap (λ word. word ∷ []) told.says.says.spelled })
form_worth kind forms.PoolByte words operand told = let worth = optional_worth kind words operand told in record { has = worth.has; is = worth.is; are = worth.are }
form_worth kind forms.Pool words operand told = let worth = optional_worth kind words operand told in record { has = worth.has; is = worth.is; are = worth.are }
form_worth kind forms.Interface words operand told = let worth = optional_worth kind words operand told in record { has = worth.has; is = worth.is; are = worth.are }
form_worth kind forms.Local words operand told = rw told.is (record { has = tt; is = told.says.says.fits; are = told.says.are ∙ ap (λ word. word ∷ []) told.says.says.spelled })
form_worth kind forms.WideLocal words operand told = rw told.is (record { has = tt; is = told.says.says.fits; are = told.says.are ∙ ap (λ word. word ∷ []) told.says.says.spelled })
form_worth kind forms.Increase words operand told =
    rw told.is (record { has = tt; is = (told.says.says.local.fits, told.says.says.by.fits); are = told.says.are ∙ ap (λ word. word ∷ told.says.second ∷ []) told.says.says.local.spelled ∙ ap (λ word. decimal told.part.0 ∷ word ∷ []) told.says.says.by.spelled })
form_worth kind forms.WideIncrease words operand told =
    rw told.is (record { has = tt; is = (told.says.says.local.fits, told.says.says.by.fits); are = told.says.are ∙ ap (λ word. word ∷ told.says.second ∷ []) told.says.says.local.spelled ∙ ap (λ word. decimal told.part.0 ∷ word ∷ []) told.says.says.by.spelled })
form_worth kind forms.Branch words operand told = rw told.is (record { has = tt; is = told.says.says.digits; are = told.says.are ∙ ap (λ word. word ∷ []) told.says.says.spelled })
form_worth kind forms.LongBranch words operand told = rw told.is (record { has = tt; is = told.says.says.digits; are = told.says.are ∙ ap (λ word. word ∷ []) told.says.says.spelled })
form_worth kind forms.ArrayCode words operand told = rw told.is (record { has = (told.says.says.least, told.says.says.most); is = tt; are = told.says.are ∙ ap (λ word. word ∷ []) told.says.says.spelled })
form_worth kind forms.Dimensions words operand told =
    rw told.is (record { has = tt; is = (told.says.says.class.units, told.says.says.dimensions.fits); are = told.says.are ∙ ap (λ word. word ∷ told.says.second ∷ []) told.says.says.class.spelled ∙ ap (λ word. name_word told.part.0 ∷ word ∷ []) told.says.says.dimensions.spelled })
form_worth kind forms.Table words operand told =
    rw told.is (record {
      has = tt;
      is = (told.says.low.fits, told.says.default.digits, told.says.labels.each);
      are = told.says.have ∙ ap (λ word. word ∷ told.says.second ∷ told.says.rest) told.says.low.spelled ∙ ap (λ word. signed_decimal told.part.0 ∷ word ∷ told.says.rest) told.says.default.spelled ∙ ap (λ rest. signed_decimal told.part.0 ∷ label_word told.part.1 ∷ rest) told.says.labels.are;
    })
form_worth kind forms.Lookup words operand told =
    rw told.is (record {
      has = tt;
      is = (told.says.default.digits, told.says.pairs.each);
      are = told.says.have ∙ ap (λ word. word ∷ told.says.rest) told.says.default.spelled ∙ ap (λ rest. label_word told.part.0 ∷ rest) told.says.pairs.are;
    })
form_worth kind forms.Dynamic words operand told = absurd told
