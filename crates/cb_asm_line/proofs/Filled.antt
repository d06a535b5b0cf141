-- A line of the format isn't empty.
use Rattle.std.proofs.Common.{◌≡◌, ◌≢◌, refl, ◌<◌, ◌^◌, Bool, true, false, [], ◌∷◌, ◌++◌, Option, Some, None}
use Rattle.std.specs.List.{join_with_byte, list_all}
use Rattle.cb_insn.specs.Forms.{head_form}
use Rattle.cb_insn.specs.declared.form.Form.{Form}
use Rattle.cb_classfile.specs.Needed.{kind_needed}
use Rattle.cb_asm_line.specs.Lines.{Line, Word, space}
use Rattle.cb_asm_line.specs.Mnemonics.{mnemonic, mnemonics}
use Rattle.cb_asm_line.specs.Operands.{HasOptionalForm, operand_words, wide_words}
use Rattle.cb_asm_line.specs.Statements.{IsStatement, statement_text, statement_words}
use Rattle.cb_asm_line.specs.declared.operand.Instruction.{Instruction}
use Rattle.cb_asm_line.specs.declared.program.CodeLine.TheVariants as lines
use Rattle.cb_asm_line.specs.declared.statement.Statement.{Statement}
use Rattle.cb_asm_line.specs.declared.statement.Statement.TheVariants as statements
use Rattle.cb_asm_line.proofs.Distinct.{all_at}
use Rattle.cb_asm_line.proofs.Formed.{named}

is_some : Word → Bool
is_some [] = false
is_some (unit ∷ word) = true

begins_some : Line → Bool
begins_some [] = false
begins_some (word ∷ words) = is_some word

not_empty : (words : Line) → begins_some words ≡ true → join_with_byte space words ≢ []
unfolding is_some begins_some
not_empty [] some is = absurd (cc some)
not_empty ([] ∷ words) some is = absurd (cc some)
not_empty ((unit ∷ word) ∷ []) some is = absurd (cc is)
not_empty ((unit ∷ word) ∷ next ∷ words) some is = absurd (cc is)

name_some : (wide : Bool) (instruction : Instruction) → instruction.opcode < 2 ^ 8 → HasOptionalForm (kind_needed instruction.opcode) (head_form wide instruction.opcode) instruction.operand → is_some (mnemonic instruction.opcode) ≡ true
unfolding is_some
name_some wide instruction fits formed = by_form (head_form wide instruction.opcode) refl formed
  where
    each : list_all is_some mnemonics ≡ true
    each = refl

    by_form : (form : Option Form) → head_form wide instruction.opcode ≡ form → HasOptionalForm (kind_needed instruction.opcode) form instruction.operand → is_some (mnemonic instruction.opcode) ≡ true
    by_form None told has = absurd has
    by_form (Some form) told has = all_at is_some mnemonics instruction.opcode (mnemonic instruction.opcode) each (named wide instruction.opcode form fits told)

instruction_some : (wide : Bool) (instruction : Instruction) → instruction.opcode < 2 ^ 8 → HasOptionalForm (kind_needed instruction.opcode) (head_form wide instruction.opcode) instruction.operand
    → begins_some (wide_words wide ++ mnemonic instruction.opcode ∷ operand_words instruction.operand) ≡ true
unfolding is_some begins_some
instruction_some true instruction fits formed = refl
instruction_some false instruction fits formed = name_some false instruction fits formed

statement_some : (statement : Statement) → IsStatement statement → begins_some (statement_words statement) ≡ true
unfolding is_some begins_some
statement_some (statements.Code (lines.Here label)) is = refl
statement_some (statements.Code (lines.Do instruction)) is = instruction_some instruction.wide instruction is.0 is.1
statement_some (statements.Class line) is = refl
statement_some (statements.Implements name) is = refl
statement_some (statements.Field field) is = refl
statement_some (statements.Method line) is = refl
statement_some (statements.Limits limits) is = refl
statement_some (statements.Catch entry) is = refl
statement_some (statements.Frame frame) is = refl
statement_some statements.End is = refl

pub some_line : (statement : Statement) → IsStatement statement → statement_text statement ≢ []
some_line statement is = not_empty (statement_words statement) (statement_some statement is)
