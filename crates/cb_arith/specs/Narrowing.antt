-- Ints made narrower (JVMS §6.5, i2b, i2c and i2s).
use Rattle.std.specs.Prelude.{ℤ, pos}
use Rattle.std.specs.Int.{w8, w16, int_wrap}
use Rattle.cb_arith.specs.declared.narrower.Narrow.{Narrow}
use Rattle.cb_arith.specs.declared.narrower.Narrow.TheVariants.{Byte, Char, Short}
use Rattle.cb_arith.specs.Bits.{low_bits}

-- what is left in 8 or in 16 bits, in two's complement, or for a char without a sign
abbrev pub narrow : Narrow → ℤ → ℤ
narrow Byte a = int_wrap w8 a
narrow Char a = pos (low_bits 16 a)
narrow Short a = int_wrap w16 a
