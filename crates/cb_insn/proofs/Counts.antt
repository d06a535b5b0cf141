-- Numbers that aren't negative, and keys.
use Rattle.std.proofs.Common.{◌≡◌, ℕ, zero, suc, ◌-◌, ◌<◌, ◌≤◌, ℤ, pos, negsuc, refl, sym, ◌∙◌, ap, arith, ◌+ℤ◌, ◌-ℤ◌, List, drop, true, false, ◌||◌, not}
use Rattle.std.specs.Int.{int_max, w32, w64, cast_signed, cast_unsigned}
use Rattle.std.specs.Int.RustNames.{unsigned_abs, FitsSigned}
use Rattle.std.specs.Prelude.{int_lt}
use Rattle.std.proofs.lemmas.Int.{ints, clamps, to_z-of_z}
use lib.Signed.{le_z}
use Rattle.cb_insn.specs.Faults.{count_of, numbers_at, keys_fall, s4_at}

pos_of_max : (m : ℤ) (n : ℕ) → m ≡ int_max (pos n) (pos 0) → m ≡ pos n
pos_of_max m n is = omega (arith, ints, clamps)

none_of_max : (m : ℤ) (n : ℕ) → m ≡ int_max (negsuc n) (pos 0) → m ≡ pos 0
none_of_max m n is = omega (arith, ints, clamps)

pub count_of_max : (z m : ℤ) → m ≡ int_max z (pos 0) → unsigned_abs m ≡ count_of z
count_of_max (pos n) m is = ap unsigned_abs (pos_of_max m n is)
count_of_max (negsuc n) m is = ap unsigned_abs (none_of_max m n is)

-- the span of two numbers of four bytes is reckoned in eight
pub span_count : (high low wide_high wide_low most : ℤ) → FitsSigned w32 high → FitsSigned w32 low → wide_high ≡ cast_signed w32 (cast_unsigned w32 high) → wide_low ≡ cast_signed w32 (cast_unsigned w32 low) → most ≡ int_max (cast_signed w64 (cast_unsigned w64 (cast_signed w64 (cast_unsigned w64 (cast_signed w64 (cast_unsigned w64 wide_high) +ℤ pos 1)) -ℤ cast_signed w64 (cast_unsigned w64 wide_low)))) (pos 0) → FitsSigned w64 most → unsigned_abs (cast_signed w64 (cast_unsigned w64 most)) ≡ count_of ((high +ℤ pos 1) -ℤ low)
span_count high low wide_high wide_low most fits_high fits_low is_high is_low is_most fits =
    let same_high : wide_high ≡ high = is_high ∙ to_z-of_z w32 high fits_high in
    let same_low : wide_low ≡ low = is_low ∙ to_z-of_z w32 low fits_low in
    let inner : cast_signed w64 (cast_unsigned w64 (cast_signed w64 (cast_unsigned w64 (cast_signed w64 (cast_unsigned w64 wide_high) +ℤ pos 1)) -ℤ cast_signed w64 (cast_unsigned w64 wide_low))) ≡ (high +ℤ pos 1) -ℤ low = omega (arith, ints) in
    ap unsigned_abs (to_z-of_z w64 most fits) ∙ count_of_max ((high +ℤ pos 1) -ℤ low) most (is_most ∙ ap (λ z. int_max z (pos 0)) inner)

not_below : (a b : ℤ) → not (int_lt a b) ≡ le_z b a
not_below a b = grind (arith, ints)

-- of two or more keys, the first two are looked at first
pub keys_step : (n : ℕ) (rest : List ℕ) → 1 < n → keys_fall (numbers_at 8 n rest) ≡ (not (int_lt (s4_at rest) (s4_at (drop 8 rest))) || keys_fall (numbers_at 8 (n - 1) (drop 8 rest)))
keys_step zero rest more = absurd (omega arith)
keys_step (suc zero) rest more = absurd (omega arith)
keys_step (suc (suc n)) rest more = let same : suc n ≡ suc (suc n) - 1 = omega arith in ap (λ k. not (int_lt (s4_at rest) (s4_at (drop 8 rest))) || keys_fall (numbers_at 8 k (drop 8 rest))) same

-- and one key doesn't fall
pub keys_few : (n : ℕ) (rest : List ℕ) → n ≤ 1 → keys_fall (numbers_at 8 n rest) ≡ false
keys_few zero rest few = refl
keys_few (suc zero) rest few = refl
keys_few (suc (suc n)) rest few = absurd (omega arith)

-- the walk over the keys, where the next isn't above and where it is
pub keys_stop : (n : ℕ) (rest next : List ℕ) (one two : ℤ) → 1 < n → next ≡ drop 8 rest → one ≡ s4_at rest → two ≡ s4_at next → le_z two one ≡ true → keys_fall (numbers_at 8 n rest) ≡ true
keys_stop n rest next one two more is_next is_one is_two falls =
    keys_step n rest more ∙ ap (λ test. test || keys_fall (numbers_at 8 (n - 1) (drop 8 rest))) (ap not (ap (λ z. int_lt z (s4_at (drop 8 rest))) (sym is_one) ∙ ap (int_lt one) (ap s4_at (sym is_next) ∙ sym is_two)) ∙ not_below one two ∙ falls)

pub keys_on : (n : ℕ) (rest next : List ℕ) (one two : ℤ) → 1 < n → next ≡ drop 8 rest → one ≡ s4_at rest → two ≡ s4_at next → le_z two one ≡ false → keys_fall (numbers_at 8 n rest) ≡ keys_fall (numbers_at 8 (n - 1) next)
keys_on n rest next one two more is_next is_one is_two rises =
    keys_step n rest more ∙ ap (λ test. test || keys_fall (numbers_at 8 (n - 1) (drop 8 rest))) (ap not (ap (λ z. int_lt z (s4_at (drop 8 rest))) (sym is_one) ∙ ap (int_lt one) (ap s4_at (sym is_next) ∙ sym is_two)) ∙ not_below one two ∙ rises) ∙ ap (λ bytes. keys_fall (numbers_at 8 (n - 1) bytes)) (sym is_next)
