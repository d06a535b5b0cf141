-- What the words of the definitions mean.
use Rattle.std.specs.Prelude.{◌≡◌, ◌≤◌, ◌<◌, ◌^◌, ◌≤ℤ◌, ◌<ℤ◌, ℕ, ℤ, pos, ◌+ℤ◌, ◌*ℤ◌, unsigned_abs}

-- two numbers have the same low bits, so many of them: they differ by a multiple of that power of 2
abbrev pub IsCongruent : ℕ → ℤ → ℤ → Type 0
IsCongruent count a b = (times : ℤ) × (a ≡ b +ℤ times *ℤ pos (2 ^ count))

-- a quotient rounded toward zero (JVMS §6.5, idiv): it is as large as it can be, apart from its sign, while the divisor times
-- it is no larger than what is divided, and it has the sign of the product
pub record IsQuotient (a b quotient : ℤ) : Type 0 where
  pub within : unsigned_abs (b *ℤ quotient) ≤ unsigned_abs a
  pub largest : (other : ℤ) → unsigned_abs (b *ℤ other) ≤ unsigned_abs a → unsigned_abs other ≤ unsigned_abs quotient
  pub not_negative : pos 0 ≤ℤ (a *ℤ b) → pos 0 ≤ℤ quotient
  pub not_positive : (a *ℤ b) ≤ℤ pos 0 → quotient ≤ℤ pos 0

-- the remainder of a quotient (JVMS §6.5, irem): it is smaller than the divisor, apart from its sign, which is that of what is
-- divided
pub record IsRemainder (a b quotient remainder : ℤ) : Type 0 where
  pub whole : quotient *ℤ b +ℤ remainder ≡ a
  pub smaller : unsigned_abs remainder < unsigned_abs b
  pub not_negative : pos 0 ≤ℤ a → pos 0 ≤ℤ remainder
  pub not_positive : a ≤ℤ pos 0 → remainder ≤ℤ pos 0

-- a number is so many parts, and less than one more
pub record IsRoundedDown (number part parts : ℤ) : Type 0 where
  pub within : (parts *ℤ part) ≤ℤ number
  pub less : number <ℤ (parts *ℤ part +ℤ part)
