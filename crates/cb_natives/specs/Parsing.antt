-- Numbers that are read digit by digit as far as they may be in range.
use Rattle.std.specs.Prelude.{◌≡◌, ℤ, pos, ◌-ℤ◌, ℕ, ◌^◌, Bool, true, false, Option, Some, None, option_and_then, option_map, nat_le, if◌then◌else◌}
use Rattle.std.specs.Int.{w32, w64}
use Rattle.cb_machine.specs.Answering.{in_range}

-- a number that was read, if it isn't more than 2 to the 63
abbrev pub at_most : Option ℕ → Option ℕ
at_most None = None
at_most (Some number) = if nat_le number (2 ^ 63) then Some number else None

-- with its sign
abbrev pub with_sign : Bool → Option ℕ → Option ℤ
with_sign true read = option_map (λ number. pos 0 -ℤ pos number) read
with_sign false read = option_map pos read

-- two numbers, where there are any, are the same as far as they are ints or longs
pub record SameInRange (one other : Option ℤ) : Type 0 where
  pub ints : option_and_then (in_range w32) one ≡ option_and_then (in_range w32) other
  pub longs : option_and_then (in_range w64) one ≡ option_and_then (in_range w64) other
