-- Instructions on fields, methods, objects and arrays (JVMS §6.5, getstatic to instanceof, and multianewarray).
use Rattle.std.specs.Prelude.{ℕ, Option, Some, None, ◌==◌, if◌then◌else◌}
use Rattle.cb_insn.specs.declared.insn.Operand.{Operand}
use Rattle.cb_insn.specs.declared.insn.Operand.TheVariants as operands
use Rattle.cb_insn.specs.declared.opcode.TheConstants as opcodes
use Rattle.cb_shapes.specs.declared.action.Action.{Action}
use Rattle.cb_shapes.specs.declared.action.Action.TheVariants as actions

-- those that name a constant
abbrev pub by_constant : ℕ → ℕ → Option Action
by_constant opcode index =
    if opcode == opcodes.GETSTATIC then Some (actions.GetStatic index)
    else if opcode == opcodes.PUTSTATIC then Some (actions.PutStatic index)
    else if opcode == opcodes.GETFIELD then Some (actions.GetField index)
    else if opcode == opcodes.PUTFIELD then Some (actions.PutField index)
    else if opcode == opcodes.INVOKEVIRTUAL then Some (actions.InvokeVirtual index)
    else if opcode == opcodes.INVOKESPECIAL then Some (actions.InvokeSpecial index)
    else if opcode == opcodes.INVOKESTATIC then Some (actions.InvokeStatic index)
    else if opcode == opcodes.NEW then Some (actions.New index)
    else if opcode == opcodes.ANEWARRAY then Some (actions.NewReferences index)
    else if opcode == opcodes.CHECKCAST then Some (actions.Cast index)
    else if opcode == opcodes.INSTANCEOF then Some (actions.IsInstance index)
    else None

-- those that have no operand
abbrev pub without_operand : ℕ → Option Action
without_operand opcode =
    if opcode == opcodes.ARRAYLENGTH then Some actions.Length
    else if opcode == opcodes.ATHROW then Some actions.Throw
    else None

-- the operand of the others tells them apart
abbrev pub reference : ℕ → Operand → Option Action
reference opcode (operands.Pool index) = by_constant opcode index
reference opcode (operands.Interface index count) = Some (actions.InvokeInterface index count)
reference opcode (operands.ArrayCode code) = Some (actions.NewNumbers code)
reference opcode (operands.Dimensions index dimensions) = Some (actions.NewArrays index dimensions)
reference opcode operands.Nothing = without_operand opcode
reference opcode other = None
