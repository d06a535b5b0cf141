-- Operands by their words.
use Rattle.std.proofs.Common.{◌≡◌, ◌∙◌, ap, sym, subst, ℕ, Bool, true, ◌∷◌, drop, slice_get, Some, None}
use Rattle.cb_text.specs.declared.naming.MemberKind.TheVariants as kinds
use Rattle.cb_insn.specs.Forms.{head_form}
use Rattle.cb_insn.specs.declared.form.Form.{Form}
use Rattle.cb_classfile.specs.Needed.{kind_needed}
use Rattle.cb_asm_line.specs.Lines.{Line, Word}
use Rattle.cb_asm_line.specs.Mnemonics.{mnemonics}
use Rattle.cb_asm_line.specs.Said.{Three}
use Rattle.cb_asm_line.specs.SaidCode.{SaysForm, SaysInterface, SaysMember, SaysNamedInstruction, SaysWide}
use Rattle.cb_asm_line.specs.declared.operand.Instruction.{Instruction}
use Rattle.cb_asm_line.specs.declared.operand.MemberText.{MemberText}
use Rattle.cb_asm_line.specs.declared.operand.Operand.{Operand}
use Rattle.cb_asm_line.proofs.Distinct.{one_place}

-- behind the first word is no method of an interface
pub no_interface : (words : Line) (key : Word) (rest : Line) → words ≡ key ∷ rest → ((member : MemberText) → Three (SaysMember kinds.InterfaceMethod) rest member → ⊥) → (member : MemberText) → SaysInterface words member → ⊥
no_interface words key rest are none member says =
    let same : says.rest ≡ rest = ap (drop 1) (sym says.are ∙ are) in none member (subst (λ each. Three (SaysMember kinds.InterfaceMethod) each member) same says.says)

-- behind `wide` is no instruction
pub not_wide : (words : Line) (key : Word) (rest : Line) → words ≡ key ∷ rest → ((instruction : Instruction) → SaysNamedInstruction true rest instruction → ⊥) → (instruction : Instruction) → SaysWide words instruction → ⊥
not_wide words key rest are none instruction says =
    let same : says.rest ≡ rest = ap (drop 1) (sym says.have ∙ are) in none instruction (subst (λ each. SaysNamedInstruction true each instruction) same says.says)

-- a name has one opcode
opcode_same : (wide : Bool) (words : Line) (name : Word) (rest : Line) (opcode : ℕ) (instruction : Instruction) → words ≡ name ∷ rest → slice_get mnemonics opcode ≡ Some name → SaysNamedInstruction wide words instruction
    → instruction.opcode ≡ opcode
opcode_same wide words name rest opcode instruction are named says =
    let same : says.name ≡ name = cc (says.have, are) in one_place instruction.opcode opcode name (says.named ∙ ap Some same) named

pub no_form : (wide : Bool) (words : Line) (name : Word) (rest : Line) (opcode : ℕ) → words ≡ name ∷ rest → slice_get mnemonics opcode ≡ Some name → head_form wide opcode ≡ None
    → (instruction : Instruction) → SaysNamedInstruction wide words instruction → ⊥
no_form wide words name rest opcode are named none instruction says =
    let same : instruction.opcode ≡ opcode = opcode_same wide words name rest opcode instruction are named says in
    let found : head_form wide opcode ≡ Some says.form = ap (head_form wide) (sym same) ∙ says.formed in
    absurd (cc (found, none))

pub no_operand : (wide : Bool) (words : Line) (name : Word) (rest : Line) (opcode : ℕ) (form : Form) → words ≡ name ∷ rest → slice_get mnemonics opcode ≡ Some name → head_form wide opcode ≡ Some form
    → ((operand : Operand) → SaysForm (kind_needed opcode) form rest operand → ⊥) → (instruction : Instruction) → SaysNamedInstruction wide words instruction → ⊥
no_operand wide words name rest opcode form are named formed none instruction says =
    let same : instruction.opcode ≡ opcode = opcode_same wide words name rest opcode instruction are named says in
    let forms : says.form ≡ form = cc (says.formed, formed, same) in
    let behind : says.rest ≡ rest = cc (says.have, are) in
    none instruction.operand (subst (λ each. SaysForm (kind_needed each) form rest instruction.operand) same (subst (λ each. SaysForm (kind_needed instruction.opcode) each rest instruction.operand) forms (subst (λ each. SaysForm (kind_needed instruction.opcode) says.form each instruction.operand) behind says.says)))
