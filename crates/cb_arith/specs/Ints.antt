-- Operations on two ints (JVMS §6.5, iadd to ixor).
use Rattle.std.specs.Prelude.{ℤ, pos, ◌+ℤ◌, ◌-ℤ◌, ◌*ℤ◌, ◌/◌, ◌^◌, ◌==◌, ◌&&◌, Bool, true, false, Option, Some, None, if◌then◌else◌, int_div, int_rem, unsigned_abs}
use Rattle.std.specs.Int.{w32, int_wrap}
use Rattle.cb_arith.specs.declared.int.IntOp.{IntOp}
use Rattle.cb_arith.specs.declared.int.IntOp.TheVariants.{Add, Sub, Mul, Div, Rem, Shl, Shr, Ushr, And, Or, Xor}
use Rattle.cb_arith.specs.Bits.{low_bits, floor_by_power, bits_and, bits_or, bits_xor}

-- the value over whole numbers. A quotient is rounded toward zero, and its remainder has the sign of what is divided. The
-- distance of a shift is what the low 5 bits say. A signed shift to the right rounds down, the other one is of the number
-- that the 32 bits say without a sign
abbrev pub exact_int : IntOp → ℤ → ℤ → ℤ
exact_int Add a b = a +ℤ b
exact_int Sub a b = a -ℤ b
exact_int Mul a b = a *ℤ b
exact_int Div a b = int_div a b
exact_int Rem a b = int_rem a b
exact_int Shl a b = a *ℤ pos (2 ^ low_bits 5 b)
exact_int Shr a b = floor_by_power a (low_bits 5 b)
exact_int Ushr a b = pos (low_bits 32 a / 2 ^ low_bits 5 b)
exact_int And a b = bits_and 32 a b
exact_int Or a b = bits_or 32 a b
exact_int Xor a b = bits_xor 32 a b

-- the operation divides
abbrev pub int_divides : IntOp → Bool
int_divides Div = true
int_divides Rem = true
int_divides other = false

-- what is left of that value in 32 bits, in two's complement, or nothing where it would be divided by zero
abbrev pub int_op : IntOp → ℤ → ℤ → Option ℤ
int_op op a b =
    if int_divides op && unsigned_abs b == 0 then None else Some (int_wrap w32 (exact_int op a b))
