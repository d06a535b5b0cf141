-- The texts that natives make are of units of two bytes.
use Rattle.std.proofs.Common.{◌≡◌, arith, ℕ, ℤ, pos, negsuc, zero, suc, ◌+◌, ◌<◌, ◌≤◌, ◌^◌, ◌/◌, ◌%◌, ◌==◌, Bool, true, false, List, [], ◌∷◌, map, nat_lt, if◌then◌else◌}
use Rattle.std.specs.Fmt.{digit_glyph, digits, digits_onto, radix_digits, signed_decimal}
use Rattle.std.specs.List.{AllByRecursion, list_all}
use Rattle.std.proofs.lemmas.Bool.{and_parts, ltb-true}
use Rattle.std.proofs.lemmas.Nat.{mod_below}

abbrev pub Units : List ℕ → Type 0
Units units = AllByRecursion (λ unit. unit < 2 ^ 16) units

-- of a list that is written out
pub literal_low : (units : List ℕ) → list_all (λ unit. nat_lt unit 65536) units ≡ true → Units units
literal_low [] is = tt
literal_low (unit ∷ units) is =
    let both = and_parts (nat_lt unit 65536) (list_all (λ unit. nat_lt unit 65536) units) is in
    let low : unit < 65536 = ltb-true unit 65536 both.0 in
    (omega (arith, low), literal_low units both.1)

-- ---- digits

glyph_low : (upper : Bool) (digit : ℕ) → digit < 16 → digit_glyph upper digit < 2 ^ 16
glyph_low upper digit low = go (nat_lt digit 10) upper where
  go : (small upper : Bool) → (if small then 48 + digit else (if upper then 55 + digit else 87 + digit)) < 2 ^ 16
  go true upper = omega (arith, low)
  go false true = omega (arith, low)
  go false false = omega (arith, low)

onto_low : (count base number : ℕ) (upper : Bool) (units : List ℕ) → 0 < base → base ≤ 16 → Units units → Units (digits_onto count base upper number units)
onto_low zero base number upper units some few all = all
onto_low (suc count) base number upper units some few all =
    let low = mod_below number base some in
    let own : digit_glyph upper (number % base) < 2 ^ 16 = glyph_low upper (number % base) (omega (arith, low, few)) in
    go (number / base == 0) (own, all) (onto_low count base (number / base) upper (digit_glyph upper (number % base) ∷ units) some few (own, all))
  where
    go : (test : Bool) → Units (digit_glyph upper (number % base) ∷ units) → Units (digits_onto count base upper (number / base) (digit_glyph upper (number % base) ∷ units))
        → Units (if test then digit_glyph upper (number % base) ∷ units else digits_onto count base upper (number / base) (digit_glyph upper (number % base) ∷ units))
    go true last more = last
    go false last more = more

digits_low : (base number : ℕ) → 0 < base → base ≤ 16 → Units (digits base false number)
unfolding digits
digits_low base number some few = onto_low 64 base number false [] some few tt

pub signed_low : (number : ℤ) → Units (signed_decimal number)
signed_low (pos number) = digits_low 10 number (omega arith) (omega arith)
signed_low (negsuc number) = (omega arith, digits_low 10 (suc number) (omega arith) (omega arith))

pub hex_low : (number : ℕ) → Units (radix_digits 16 false number)
hex_low number = digits_low 16 number (omega arith) (omega arith)

-- ---- texts that are changed

pub all_mapped : (change : ℕ → ℕ) (units : List ℕ) → ((unit : ℕ) → unit < 2 ^ 16 → change unit < 2 ^ 16) → Units units → Units (map change units)
all_mapped change [] each all = tt
all_mapped change (unit ∷ units) each all = (each unit all.0, all_mapped change units each all.1)
