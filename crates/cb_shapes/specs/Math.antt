-- Instructions that compute from numbers, from iadd to iinc, and conversions (JVMS §6.5).
use Rattle.std.specs.Prelude.{ℕ, Option, Some, None, option_map, ◌==◌, if◌then◌else◌}
use Rattle.std.specs.Option.{option_or}
use Rattle.cb_arith.specs.declared.int.IntOp.TheVariants as ints
use Rattle.cb_arith.specs.declared.long.LongOp.TheVariants as longs
use Rattle.cb_arith.specs.declared.narrower.Narrow.TheVariants as narrower
use Rattle.cb_arith.specs.declared.shift.ShiftOp.TheVariants as shifts
use Rattle.cb_insn.specs.declared.insn.Operand.{Operand}
use Rattle.cb_insn.specs.declared.insn.Operand.TheVariants as operands
use Rattle.cb_insn.specs.declared.opcode.TheConstants as opcodes
use Rattle.cb_shapes.specs.declared.action.Action.{Action}
use Rattle.cb_shapes.specs.declared.action.Action.TheVariants as actions
use Rattle.cb_shapes.specs.declared.computation.Computation.{Computation}
use Rattle.cb_shapes.specs.declared.computation.Computation.TheVariants as computations

-- iadd to ixor
abbrev pub of_ints : ℕ → Option Computation
of_ints opcode =
    if opcode == opcodes.IADD then Some (computations.OfInts ints.Add)
    else if opcode == opcodes.ISUB then Some (computations.OfInts ints.Sub)
    else if opcode == opcodes.IMUL then Some (computations.OfInts ints.Mul)
    else if opcode == opcodes.IDIV then Some (computations.OfInts ints.Div)
    else if opcode == opcodes.IREM then Some (computations.OfInts ints.Rem)
    else if opcode == opcodes.INEG then Some computations.NegateInt
    else if opcode == opcodes.ISHL then Some (computations.OfInts ints.Shl)
    else if opcode == opcodes.ISHR then Some (computations.OfInts ints.Shr)
    else if opcode == opcodes.IUSHR then Some (computations.OfInts ints.Ushr)
    else if opcode == opcodes.IAND then Some (computations.OfInts ints.And)
    else if opcode == opcodes.IOR then Some (computations.OfInts ints.Or)
    else if opcode == opcodes.IXOR then Some (computations.OfInts ints.Xor)
    else None

-- ladd to lxor
abbrev pub of_longs : ℕ → Option Computation
of_longs opcode =
    if opcode == opcodes.LADD then Some (computations.OfLongs longs.Add)
    else if opcode == opcodes.LSUB then Some (computations.OfLongs longs.Sub)
    else if opcode == opcodes.LMUL then Some (computations.OfLongs longs.Mul)
    else if opcode == opcodes.LDIV then Some (computations.OfLongs longs.Div)
    else if opcode == opcodes.LREM then Some (computations.OfLongs longs.Rem)
    else if opcode == opcodes.LNEG then Some computations.NegateLong
    else if opcode == opcodes.LSHL then Some (computations.ShiftLong shifts.Shl)
    else if opcode == opcodes.LSHR then Some (computations.ShiftLong shifts.Shr)
    else if opcode == opcodes.LUSHR then Some (computations.ShiftLong shifts.Ushr)
    else if opcode == opcodes.LAND then Some (computations.OfLongs longs.And)
    else if opcode == opcodes.LOR then Some (computations.OfLongs longs.Or)
    else if opcode == opcodes.LXOR then Some (computations.OfLongs longs.Xor)
    else None

-- i2l to i2s, and lcmp
abbrev pub conversion : ℕ → Option Computation
conversion opcode =
    if opcode == opcodes.I2L then Some computations.IntToLong
    else if opcode == opcodes.L2I then Some computations.LongToInt
    else if opcode == opcodes.I2B then Some (computations.MakeNarrow narrower.Byte)
    else if opcode == opcodes.I2C then Some (computations.MakeNarrow narrower.Char)
    else if opcode == opcodes.I2S then Some (computations.MakeNarrow narrower.Short)
    else if opcode == opcodes.LCMP then Some computations.CompareLongs
    else None

-- iinc
abbrev pub increase : Operand → Option Action
increase (operands.Increase local by) = Some (actions.Increase local by)
increase other = None

-- iadd to iinc
abbrev pub math : ℕ → Operand → Option Action
math opcode operand =
    if opcode == opcodes.IINC then increase operand
    else option_map actions.Compute (option_or (of_ints opcode) (of_longs opcode))
