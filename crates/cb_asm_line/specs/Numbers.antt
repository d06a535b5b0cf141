-- Numbers are decimal, without leading zeros. A negative one has `-` before its digits, and no other has a sign.
use Rattle.std.specs.Prelude.{◌≡◌, ℕ, ◌≤◌, List, [], ◌∷◌}
use Rattle.std.specs.List.{AllByRecursion}
pub use Rattle.std.specs.Fmt.{decimal, signed_decimal}

abbrev pub digit_zero : ℕ
digit_zero = 48

abbrev pub digit_nine : ℕ
digit_nine = 57

abbrev pub IsDigit : ℕ → Type 0
IsDigit unit = (digit_zero ≤ unit) × (unit ≤ digit_nine)

-- the digits of a number of any size: at least one, and the first is no zero where there are more
abbrev pub IsDecimal : List ℕ → Type 0
IsDecimal [] = ⊥
IsDecimal (digit ∷ []) = IsDigit digit
IsDecimal (digit ∷ digits) = (¬ (digit ≡ digit_zero)) × IsDigit digit × AllByRecursion IsDigit digits
