-- Operations on two longs (JVMS §6.5, ladd to lxor).
use Rattle.std.specs.Prelude.{ℤ, ◌+ℤ◌, ◌-ℤ◌, ◌*ℤ◌, ◌==◌, ◌&&◌, Bool, true, false, Option, Some, None, if◌then◌else◌, int_div, int_rem, unsigned_abs}
use Rattle.std.specs.Int.{w64, int_wrap}
use Rattle.cb_arith.specs.declared.long.LongOp.{LongOp}
use Rattle.cb_arith.specs.declared.long.LongOp.TheVariants.{Add, Sub, Mul, Div, Rem, And, Or, Xor}
use Rattle.cb_arith.specs.Bits.{bits_and, bits_or, bits_xor}

-- the value over whole numbers. A quotient is rounded toward zero, and its remainder has the sign of what is divided
abbrev pub exact_long : LongOp → ℤ → ℤ → ℤ
exact_long Add a b = a +ℤ b
exact_long Sub a b = a -ℤ b
exact_long Mul a b = a *ℤ b
exact_long Div a b = int_div a b
exact_long Rem a b = int_rem a b
exact_long And a b = bits_and 64 a b
exact_long Or a b = bits_or 64 a b
exact_long Xor a b = bits_xor 64 a b

-- the operation divides
abbrev pub long_divides : LongOp → Bool
long_divides Div = true
long_divides Rem = true
long_divides other = false

-- what is left of that value in 64 bits, in two's complement, or nothing where it would be divided by zero
abbrev pub long_op : LongOp → ℤ → ℤ → Option ℤ
long_op op a b =
    if long_divides op && unsigned_abs b == 0 then None else Some (int_wrap w64 (exact_long op a b))
