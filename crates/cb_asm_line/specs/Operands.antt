-- The words of instructions.
use Rattle.std.specs.Prelude.{◌≡◌, ◌≢◌, ℕ, ◌-◌, ◌≤◌, Bool, true, false, List, [], ◌∷◌, ◌++◌, map, Option, Some, None, slice_get, codes}
use Rattle.std.specs.List.{flat_map}
use Rattle.std.specs.Option.{unwrap_or}
use Rattle.cb_text.specs.declared.naming.MemberKind.{MemberKind}
use Rattle.cb_text.specs.declared.naming.MemberKind.TheVariants as kinds
use Rattle.cb_insn.specs.declared.form.Form.{Form}
use Rattle.cb_insn.specs.declared.form.Form.TheVariants as forms
use Rattle.cb_insn.specs.Forms.{head_form}
use Rattle.cb_classfile.specs.declared.needed.ConstantKind.{ConstantKind}
use Rattle.cb_classfile.specs.declared.needed.ConstantKind.TheVariants as needed
use Rattle.cb_classfile.specs.Needed.{kind_needed}
use Rattle.cb_asm_line.specs.declared.operand.Value.TheVariants as values
use Rattle.cb_asm_line.specs.Lines.{Word}
use Rattle.cb_asm_line.specs.Mnemonics.{mnemonic, array_types}
use Rattle.cb_asm_line.specs.Numbers.{decimal, signed_decimal}
use Rattle.cb_asm_line.specs.declared.operand.Value.{Value}
use Rattle.cb_asm_line.specs.declared.operand.MemberText.{MemberText}
use Rattle.cb_asm_line.specs.declared.operand.Operand.{Operand}
use Rattle.cb_asm_line.specs.declared.operand.Instruction.{Instruction}
use Rattle.cb_asm_line.specs.declared.operand.Operand.TheVariants.{Nothing, Number, Local, Increase, Load, Member, Class, Array, Dimensions, Branch, Table, Lookup}
use Rattle.cb_asm_line.specs.Label.{Label}
use Rattle.cb_asm_line.specs.Quoting.{name_word, quoted}

abbrev pub letter_label : ℕ
letter_label = 76

abbrev pub label_word : Label → Word
label_word digits = letter_label ∷ digits

-- a constant that stands for itself: its kind, and its number, text or name
abbrev pub value_words : Value → List Word
value_words (values.Int number) = codes "int" ∷ signed_decimal number ∷ []
value_words (values.Long number) = codes "long" ∷ signed_decimal number ∷ []
value_words (values.Text text) = codes "text" ∷ quoted text ∷ []
value_words (values.Class name) = codes "class" ∷ name_word name ∷ []

-- a method of an interface has a word before it
abbrev pub kind_words : MemberKind → List Word
kind_words kinds.InterfaceMethod = codes "interface" ∷ []
kind_words other = []

abbrev pub member_words : MemberText → List Word
member_words member = kind_words member.kind ++ name_word member.class ∷ name_word member.name ∷ name_word member.descriptor ∷ []

abbrev pub array_type : ℕ → Word
array_type code = unwrap_or (slice_get array_types (code - 4)) []

abbrev pub operand_words : Operand → List Word
operand_words Nothing = []
operand_words (Number number) = signed_decimal number ∷ []
operand_words (Local local) = decimal local ∷ []
operand_words (Increase local by) = decimal local ∷ signed_decimal by ∷ []
operand_words (Load value) = value_words value
operand_words (Member member) = member_words member
operand_words (Class name) = name_word name ∷ []
operand_words (Array code) = array_type code ∷ []
operand_words (Dimensions name dimensions) = name_word name ∷ decimal dimensions ∷ []
operand_words (Branch label) = label_word label ∷ []
operand_words (Table low default labels) = signed_decimal low ∷ label_word default ∷ map label_word labels
operand_words (Lookup default pairs) = label_word default ∷ flat_map (λ pair. signed_decimal pair.0 ∷ label_word pair.1 ∷ []) pairs

abbrev pub wide_words : Bool → List Word
wide_words true = codes "wide" ∷ []
wide_words false = []

abbrev pub instruction_words : Instruction → List Word
instruction_words instruction =
    wide_words instruction.wide ++ mnemonic instruction.opcode ∷ operand_words instruction.operand

-- what stands behind an instruction that names a constant of a kind (JVMS §4.9.1). There are no words for what
-- invokedynamic calls
abbrev pub Names : ConstantKind → Operand → Type 0
Names needed.Loadable (Load value) = Unit {0}
Names needed.Wide (Load value) = Unit {0}
Names needed.Class (Class name) = Unit {0}
Names needed.Field (Member member) = member.kind ≡ kinds.Field
Names needed.ClassMethod (Member member) = member.kind ≡ kinds.Method
Names needed.AnyMethod (Member member) = member.kind ≢ kinds.Field
Names needed.InterfaceMethod (Member member) = member.kind ≡ kinds.InterfaceMethod
Names kind operand = ⊥

abbrev pub NamesKind : Option ConstantKind → Operand → Type 0
NamesKind None operand = ⊥
NamesKind (Some kind) operand = Names kind operand

-- the operand is of the form that the opcode gives it (JVMS chapter 6)
abbrev pub HasForm : Option ConstantKind → Form → Operand → Type 0
HasForm kind forms.Plain Nothing = Unit {0}
HasForm kind forms.Byte (Number number) = Unit {0}
HasForm kind forms.Short (Number number) = Unit {0}
HasForm kind forms.PoolByte operand = NamesKind kind operand
HasForm kind forms.Pool operand = NamesKind kind operand
HasForm kind forms.Interface operand = NamesKind kind operand
HasForm kind forms.Local (Local local) = Unit {0}
HasForm kind forms.WideLocal (Local local) = Unit {0}
HasForm kind forms.Increase (Increase local by) = Unit {0}
HasForm kind forms.WideIncrease (Increase local by) = Unit {0}
HasForm kind forms.Branch (Branch label) = Unit {0}
HasForm kind forms.LongBranch (Branch label) = Unit {0}
HasForm kind forms.ArrayCode (Array code) = (4 ≤ code) × (code ≤ 11)
HasForm kind forms.Dimensions (Dimensions name dimensions) = Unit {0}
HasForm kind forms.Table (Table low default labels) = Unit {0}
HasForm kind forms.Lookup (Lookup default pairs) = Unit {0}
HasForm kind form operand = ⊥

abbrev pub HasOptionalForm : Option ConstantKind → Option Form → Operand → Type 0
HasOptionalForm kind None operand = ⊥
HasOptionalForm kind (Some form) operand = HasForm kind form operand

abbrev pub IsInstruction : Instruction → Type 0
IsInstruction instruction =
    HasOptionalForm (kind_needed instruction.opcode) (head_form instruction.wide instruction.opcode) instruction.operand
