-- Shifts of longs (JVMS §6.5, lshl, lshr and lushr).
use Rattle.std.specs.Prelude.{ℤ, pos, ◌*ℤ◌, ◌/◌, ◌^◌}
use Rattle.std.specs.Int.{w64, int_wrap}
use Rattle.cb_arith.specs.declared.shift.ShiftOp.{ShiftOp}
use Rattle.cb_arith.specs.declared.shift.ShiftOp.TheVariants.{Shl, Shr, Ushr}
use Rattle.cb_arith.specs.Bits.{low_bits, floor_by_power}

-- the value over whole numbers. The distance is what the low 6 bits say. A signed shift to the right rounds down, the other
-- one is of the number that the 64 bits say without a sign
abbrev pub exact_shift : ShiftOp → ℤ → ℤ → ℤ
exact_shift Shl a by = a *ℤ pos (2 ^ low_bits 6 by)
exact_shift Shr a by = floor_by_power a (low_bits 6 by)
exact_shift Ushr a by = pos (low_bits 64 a / 2 ^ low_bits 6 by)

-- what is left of that value in 64 bits, in two's complement
abbrev pub long_shift : ShiftOp → ℤ → ℤ → ℤ
long_shift op a by = int_wrap w64 (exact_shift op a by)
