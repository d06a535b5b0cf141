-- Whole numbers in two's complement, as bits without end: a number's sign stands in all bits from some place on.
use Rattle.std.specs.Prelude.{ℕ, ℤ, pos, ◌^◌, unsigned_abs, bit_and, bit_or, bit_xor}
use Rattle.std.specs.Int.{int_div_euclid, int_rem_euclid}

-- the low bits of a number, so many of them, read without a sign: its remainder by that power of 2, which is not negative
abbrev pub low_bits : ℕ → ℤ → ℕ
low_bits count number = unsigned_abs (int_rem_euclid number (pos (2 ^ count)))

-- the quotient by a power of 2, rounded down
abbrev pub floor_by_power : ℤ → ℕ → ℤ
floor_by_power number times = int_div_euclid number (pos (2 ^ times))

-- the bit at a place, 0 or 1
abbrev pub bit : ℕ → ℤ → ℕ
bit place number = low_bits 1 (floor_by_power number place)

-- the low bits of two numbers, bit by bit
abbrev pub bits_and : ℕ → ℤ → ℤ → ℤ
bits_and count a b = pos (bit_and (low_bits count a) (low_bits count b))

abbrev pub bits_or : ℕ → ℤ → ℤ → ℤ
bits_or count a b = pos (bit_or (low_bits count a) (low_bits count b))

abbrev pub bits_xor : ℕ → ℤ → ℤ → ℤ
bits_xor count a b = pos (bit_xor (low_bits count a) (low_bits count b))
