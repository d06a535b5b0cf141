-- What an instruction does, by its opcode and its operand. Its groups are those of the table of opcodes (JVMS chapter 7).
use Rattle.std.specs.Prelude.{ℕ, Option, option_map, nat_lt, if◌then◌else◌}
use Rattle.cb_insn.specs.declared.insn.Insn.{Insn}
use Rattle.cb_insn.specs.declared.insn.Operand.{Operand}
use Rattle.cb_insn.specs.declared.opcode.TheConstants as opcodes
use Rattle.cb_shapes.specs.declared.action.Action.{Action}
use Rattle.cb_shapes.specs.declared.action.Action.TheVariants as actions
use Rattle.cb_shapes.specs.Constants.{constant}
use Rattle.cb_shapes.specs.Control.{condition_of, leaving}
use Rattle.cb_shapes.specs.Math.{conversion, math}
use Rattle.cb_shapes.specs.Moves.{load, load_element, shuffle_of, store, store_element}
use Rattle.cb_shapes.specs.References.{reference}

-- none where the profile leaves the instruction out
abbrev pub done_by : ℕ → Operand → Option Action
done_by opcode operand =
    if nat_lt opcode opcodes.ILOAD then constant opcode operand
    else if nat_lt opcode opcodes.IALOAD then load opcode operand
    else if nat_lt opcode opcodes.ISTORE then load_element opcode
    else if nat_lt opcode opcodes.IASTORE then store opcode operand
    else if nat_lt opcode opcodes.POP then store_element opcode
    else if nat_lt opcode opcodes.IADD then option_map actions.Shuffle (shuffle_of opcode)
    else if nat_lt opcode opcodes.I2L then math opcode operand
    else if nat_lt opcode opcodes.IFEQ then option_map actions.Compute (conversion opcode)
    else if nat_lt opcode opcodes.TABLESWITCH then option_map actions.Branch (condition_of opcode)
    else if nat_lt opcode opcodes.GETSTATIC then leaving opcode
    else if nat_lt opcode opcodes.IFNULL then reference opcode operand
    else option_map actions.Branch (condition_of opcode)

abbrev pub action_of : Insn → Option Action
action_of insn = done_by insn.opcode insn.operand
