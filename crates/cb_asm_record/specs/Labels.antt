-- The instructions of code and their places. A label names the place that it stands at: that of the next instruction, or
-- the end of the code.
use Rattle.std.specs.Prelude.{ℕ, ◌+◌, List, [], ◌∷◌, length, map, Option, Some, None, ◌==◌, if◌then◌else◌}
use Rattle.std.specs.Option.{unwrap_or}
use Rattle.cb_insn.specs.declared.insn.Insn.{Insn}
use Rattle.cb_insn.specs.declared.insn.Operand.{Operand as InsnOperand}
use Rattle.cb_insn.specs.declared.insn.Operand.TheVariants as operands
use Rattle.cb_insn.specs.declared.opcode.TheConstants as opcodes
use Rattle.cb_insn.specs.Writing.{insn_bytes}
use Rattle.cb_asm_record.specs.Constants.{index_of}
use Rattle.cb_asm_record.specs.Entries.{Entry, member_entry, value_entry}
use Rattle.cb_asm_line.specs.Lines.{same_text}
use Rattle.cb_asm_line.specs.Parameters.{argument_words}
use Rattle.cb_asm_line.specs.declared.operand.MemberText.{MemberText}
use Rattle.cb_asm_line.specs.declared.operand.Operand.{Operand}
use Rattle.cb_asm_line.specs.declared.operand.Instruction.{Instruction}
use Rattle.cb_asm_line.specs.declared.program.CodeLine.{CodeLine}
use Rattle.cb_asm_line.specs.declared.operand.Operand.TheVariants.{Nothing, Number, Local, Increase, Load, Member, Class, Array, Dimensions, Branch, Table, Lookup}
use Rattle.cb_asm_line.specs.declared.program.CodeLine.TheVariants.{Here, Do}
use Rattle.cb_asm_line.specs.Label.{Label}

-- invokeinterface has a count behind the index of its method
abbrev pub member_operand : ℕ → ℕ → MemberText → InsnOperand
member_operand opcode index member =
    if opcode == opcodes.INVOKEINTERFACE then operands.Interface index (argument_words member.descriptor)
    else operands.Pool index

-- an operand with the indices of its constants and the places of its labels
abbrev pub operand_of : List Entry → (Label → ℕ) → ℕ → Operand → InsnOperand
operand_of entries place opcode Nothing = operands.Nothing
operand_of entries place opcode (Number number) = operands.Number number
operand_of entries place opcode (Local local) = operands.Local local
operand_of entries place opcode (Increase local by) = operands.Increase local by
operand_of entries place opcode (Load value) = operands.Pool (index_of entries (value_entry value))
operand_of entries place opcode (Member member) = member_operand opcode (index_of entries (member_entry member)) member
operand_of entries place opcode (Class name) = operands.Pool (index_of entries (Entry.Class name))
operand_of entries place opcode (Array code) = operands.ArrayCode code
operand_of entries place opcode (Dimensions name dimensions) = operands.Dimensions (index_of entries (Entry.Class name)) dimensions
operand_of entries place opcode (Branch label) = operands.Branch (place label)
operand_of entries place opcode (Table low default labels) = operands.Table (place default) low (map place labels)
operand_of entries place opcode (Lookup default pairs) =
    operands.Lookup (place default) (map (λ pair. record { key = pair.0; target = place pair.1 }) pairs)

abbrev pub insn_of : List Entry → (Label → ℕ) → Instruction → Insn
insn_of entries place instruction =
    record { opcode = instruction.opcode; wide = instruction.wide; operand = operand_of entries place instruction.opcode instruction.operand }

-- how many bytes an instruction takes at a place, whatever its constants and labels are
abbrev pub size_at : ℕ → Instruction → ℕ
size_at pc instruction = length (insn_bytes pc (insn_of [] (λ label. 0) instruction))

-- the labels with their places, from a place on
abbrev pub labels_from : ℕ → List CodeLine → List (Label × ℕ)
labels_from pc [] = []
labels_from pc (Here label ∷ lines) = (label, pc) ∷ labels_from pc lines
labels_from pc (Do instruction ∷ lines) = labels_from (pc + size_at pc instruction) lines

-- the place of a label, if it is there
abbrev pub place_in : List (Label × ℕ) → Label → Option ℕ
place_in [] label = None
place_in (first ∷ labels) label = if same_text first.0 label then Some first.1 else place_in labels label

abbrev pub place_of : List CodeLine → Label → Option ℕ
place_of lines label = place_in (labels_from 0 lines) label

-- the same as a number, which is 0 where it isn't there
abbrev pub place_at : List CodeLine → Label → ℕ
place_at lines label = unwrap_or (place_of lines label) 0

-- the instructions, from a place on
abbrev pub code_from : List Entry → (Label → ℕ) → ℕ → List CodeLine → List (ℕ × Insn)
code_from entries place pc [] = []
code_from entries place pc (Here label ∷ lines) = code_from entries place pc lines
code_from entries place pc (Do instruction ∷ lines) =
    (pc, insn_of entries place instruction) ∷ code_from entries place (pc + size_at pc instruction) lines
