-- Instructions that load constants (JVMS §6.5, nop to ldc2_w).
use Rattle.std.specs.Prelude.{ℕ, pos, ◌-ℤ◌, Option, Some, None, nat_le, ◌==◌, if◌then◌else◌}
use Rattle.cb_insn.specs.declared.insn.Operand.{Operand}
use Rattle.cb_insn.specs.declared.insn.Operand.TheVariants as operands
use Rattle.cb_insn.specs.declared.opcode.TheConstants as opcodes
use Rattle.cb_shapes.specs.declared.action.Action.{Action}
use Rattle.cb_shapes.specs.declared.action.Action.TheVariants as actions
use Rattle.cb_shapes.specs.declared.computation.Computation.TheVariants as computations

-- what stands behind the opcode
abbrev pub by_operand : Operand → Option Action
by_operand (operands.Number number) = Some (actions.Compute (computations.IntConstant number))
by_operand (operands.Pool index) = Some (actions.Constant index)
by_operand other = None

-- iconst_m1 to iconst_5, lconst_0 and lconst_1 name their constants
abbrev pub constant : ℕ → Operand → Option Action
constant opcode operand =
    if opcode == opcodes.NOP then Some (actions.Compute computations.Nothing)
    else if opcode == opcodes.ACONST_NULL then Some actions.Null
    else if nat_le opcode opcodes.ICONST_5 then Some (actions.Compute (computations.IntConstant (pos opcode -ℤ pos opcodes.ICONST_0)))
    else if nat_le opcode opcodes.LCONST_1 then Some (actions.Compute (computations.LongConstant (pos opcode -ℤ pos opcodes.LCONST_0)))
    else if nat_le opcodes.BIPUSH opcode then by_operand operand
    else None
