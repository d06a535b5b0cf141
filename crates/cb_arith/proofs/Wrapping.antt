-- What the code's operations leave, by the definitions.
use Rattle.std.proofs.Common.{◌≡◌, ℕ, suc, ◌+◌, ◌-◌, ◌*◌, ◌/◌, ◌%◌, ◌^◌, ◌<◌, ◌≤◌, ℤ, pos, negsuc, ◌+ℤ◌, ◌*ℤ◌, lit<, sym, refl, ap, ◌∙◌, arith, mod-eq_of_lt, pow_pos, pow_mono, pow-add, lt_of_le_of_lt, lt_of_lt_of_le, mod-lt, subst, false}
use Rattle.std.proofs.Math.Nat.{div-le_self}
use Rattle.std.specs.Prelude.{◌==◌, FitsSigned, bit_and, bit_or, bit_xor, int_div, int_rem, unsigned_abs}
use Rattle.std.specs.Int.{Width, w8, w16, w32, w64, w128, cast_signed, cast_unsigned, int_shl, int_shr, int_wrap, int_wrapping_div}
use Rattle.std.specs.Int.Signed.{mag_rem, mag_shr}
use Rattle.std.proofs.lemmas.Int.{ints, int_rem_euclid_is, int_wrap_fits, int_wrap-mul_right, SFits-int_wrap, to_z-of_z, wrapping_mul-bits}
use Rattle.std.proofs.lemmas.Nat.{and_le_l, and_mask, or_lt, pow_below, xor_lt}
use Rattle.std.proofs.lemmas.Bool.Decides.{nat_tests}
use mir.Val.{bits, hbits}
use mir.ValLaws.{of_z_fits}
use Rattle.cb_arith.proofs.Rounding.{size_is}
use Rattle.cb_arith.specs.Bits.{low_bits, floor_by_power, bits_and, bits_or, bits_xor}

-- the bits of a number that fits
pub below : (w : Width) (z : ℤ) → FitsSigned w z → cast_unsigned w z < 2 ^ bits w
below w z f = (of_z_fits w z f).fits

half_below : (w : Width) → 2 ^ hbits w < 2 ^ bits w
half_below w8 = lit< tt
half_below w16 = lit< tt
half_below w32 = lit< tt
half_below w64 = lit< tt
half_below w128 = lit< tt

size_below : (w : Width) (z : ℤ) → FitsSigned w z → unsigned_abs z < 2 ^ bits w
size_below w (pos n) f = omega (arith, f.sfits, half_below w)
size_below w (negsuc n) f = omega (arith, f.sfits, half_below w)

-- a number below 2 ^ bits w is read with its sign
pub int_wrap-pos : (w : Width) (n : ℕ) → n < 2 ^ bits w → int_wrap w (pos n) ≡ cast_signed w n
unfolding int_wrap
int_wrap-pos w n h = ap (cast_signed w) (mod-eq_of_lt h)

-- the low bits are those of the code's bits
pub low_bits_of : (w : Width) (count : ℕ) (z : ℤ) → count ≤ bits w → FitsSigned w z → low_bits count z ≡ cast_unsigned w z % 2 ^ count
low_bits_of w count (pos n) h f = refl
low_bits_of w count (negsuc n) h f =
    let sum : bits w - count + count ≡ bits w = omega arith in
    let whole : 2 ^ (bits w - count) * 2 ^ count ≡ 2 ^ bits w = sym (pow-add 2 (bits w - count) count) ∙ ap (λ k. 2 ^ k) sum in
    let m = 2 ^ bits w - suc n in
    let small = size_below w (negsuc n) f in
    let more : negsuc n +ℤ pos (2 ^ bits w) ≡ pos m = omega (arith, ints) in
    let same : negsuc n +ℤ pos (2 ^ (bits w - count) * 2 ^ count) ≡ pos m = ap (λ x. negsuc n +ℤ pos x) whole ∙ more in
    ap unsigned_abs (int_rem_euclid_is (negsuc n) (pos (2 ^ count)) (2 ^ count) (2 ^ (bits w - count)) m (pow_pos count) refl same)

pub low_bits_whole : (w : Width) (z : ℤ) → FitsSigned w z → low_bits (bits w) z ≡ cast_unsigned w z
low_bits_whole w z f = low_bits_of w (bits w) z (omega arith) f ∙ mod-eq_of_lt (below w z f)

-- a number that isn't far out is read by its bits
pub int_wrap-near : (w : Width) (z : ℤ) → unsigned_abs z < 2 ^ bits w → int_wrap w z ≡ cast_signed w (cast_unsigned w z)
unfolding int_wrap
int_wrap-near w (pos n) h = ap (cast_signed w) (mod-eq_of_lt h)
int_wrap-near w (negsuc n) h =
    let small : n < 2 ^ bits w = omega arith in
    let same : n % 2 ^ bits w ≡ n = mod-eq_of_lt small in
    let turned : 2 ^ bits w - 1 - n % 2 ^ bits w ≡ 2 ^ bits w - suc n = omega arith in
    ap (cast_signed w) turned

pub int_shl_is : (w : Width) (a : ℤ) (k : ℕ) → FitsSigned w a → k < bits w → int_shl w a k ≡ int_wrap w (a *ℤ pos (2 ^ k))
int_shl_is w a k f h =
    let power : 2 ^ k < 2 ^ bits w = pow_below k (bits w) h in
    wrapping_mul-bits w (cast_unsigned w a) (2 ^ k) (below w a f) power
    ∙ ap (λ x. int_wrap w (x *ℤ cast_signed w (2 ^ k))) (to_z-of_z w a f)
    ∙ ap (λ x. int_wrap w (a *ℤ x)) (sym (int_wrap-pos w (2 ^ k) power))
    ∙ int_wrap-mul_right w a (pos (2 ^ k))

floor_by_power_is : (a : ℤ) (k : ℕ) → floor_by_power a k ≡ int_shr a k
floor_by_power_is (pos n) k = refl
floor_by_power_is (negsuc n) k = refl

pub int_shr_is : (w : Width) (a : ℤ) (k : ℕ) → FitsSigned w a → int_shr a k ≡ int_wrap w (floor_by_power a k)
int_shr_is w a k f = sym (ap (int_wrap w) (floor_by_power_is a k) ∙ int_wrap_fits w (int_shr a k) (record { sfits = lt_of_le_of_lt (mag_shr a (2 ^ k)) f.sfits }))

-- the number without a sign, shifted
pub ushr_is : (w : Width) (a : ℤ) (k : ℕ) → FitsSigned w a → cast_signed w (cast_unsigned w a / 2 ^ k) ≡ int_wrap w (pos (low_bits (bits w) a / 2 ^ k))
ushr_is w a k f =
    let less : cast_unsigned w a / 2 ^ k < 2 ^ bits w = lt_of_le_of_lt (div-le_self (cast_unsigned w a) (2 ^ k)) (below w a f) in
    sym (ap (λ n. int_wrap w (pos (n / 2 ^ k))) (low_bits_whole w a f) ∙ int_wrap-pos w _ less)

quotient_size : (a b : ℤ) → unsigned_abs (int_div a b) ≤ unsigned_abs a
quotient_size a b = rw (size_is a b) (div-le_self (unsigned_abs a) (unsigned_abs b))

pub int_div_is : (w : Width) (a b : ℤ) → FitsSigned w a → int_wrapping_div w a b ≡ int_wrap w (int_div a b)
int_div_is w a b f = sym (int_wrap-near w (int_div a b) (lt_of_le_of_lt (quotient_size a b) (size_below w a f)))

pub int_rem_is : (w : Width) (a b : ℤ) → FitsSigned w a → int_rem a b ≡ int_wrap w (int_rem a b)
int_rem_is w a b f = sym (int_wrap_fits w (int_rem a b) (record { sfits = lt_of_le_of_lt (mag_rem a b) f.sfits }))

-- bit by bit
module _ (w : Width) (a b : ℤ) (f : FitsSigned w a) (g : FitsSigned w b) where
  by_bits : (op : ℕ → ℕ → ℕ) → op (cast_unsigned w a) (cast_unsigned w b) < 2 ^ bits w
      → cast_signed w (op (cast_unsigned w a) (cast_unsigned w b)) ≡ int_wrap w (pos (op (low_bits (bits w) a) (low_bits (bits w) b)))
  by_bits op h = sym (ap (λ n. int_wrap w (pos (op n (low_bits (bits w) b)))) (low_bits_whole w a f)
      ∙ ap (λ n. int_wrap w (pos (op (cast_unsigned w a) n))) (low_bits_whole w b g)
      ∙ int_wrap-pos w _ h)

  pub bits_and_is : cast_signed w (bit_and (cast_unsigned w a) (cast_unsigned w b)) ≡ int_wrap w (bits_and (bits w) a b)
  bits_and_is = by_bits bit_and (lt_of_le_of_lt (and_le_l (cast_unsigned w a) (cast_unsigned w b)) (below w a f))

  pub bits_or_is : cast_signed w (bit_or (cast_unsigned w a) (cast_unsigned w b)) ≡ int_wrap w (bits_or (bits w) a b)
  bits_or_is = by_bits bit_or (or_lt (bits w) _ _ (below w a f) (below w b g))

  pub bits_xor_is : cast_signed w (bit_xor (cast_unsigned w a) (cast_unsigned w b)) ≡ int_wrap w (bits_xor (bits w) a b)
  bits_xor_is = by_bits bit_xor (xor_lt (bits w) _ _ (below w a f) (below w b g))

-- ---- what a call of the library gives, with each argument as it is handed over

read_back : (w : Width) (r z : ℤ) → r ≡ int_wrap w z → cast_signed w (cast_unsigned w r) ≡ int_wrap w z
read_back w r z e = ap (λ x. cast_signed w (cast_unsigned w x)) e ∙ to_z-of_z w (int_wrap w z) (SFits-int_wrap w z)

positive : (n : ℕ) → (n ≡ 0 → ⊥) → (n == 0) ≡ false
positive n h = grind (arith, nat_tests)

-- a divisor that isn't zero
pub not_zero : (w : Width) (b : ℤ) → (cast_unsigned w b ≡ 0 → ⊥) → (unsigned_abs b == 0) ≡ false
not_zero w (pos n) h = positive n h
not_zero w (negsuc n) h = positive (suc n) (λ e. omega arith)

module _ (w : Width) (a b r : ℤ) (f : FitsSigned w a) (g : FitsSigned w b) where
  pub divided : r ≡ int_wrapping_div w (cast_signed w (cast_unsigned w a)) (cast_signed w (cast_unsigned w b))
      → cast_signed w (cast_unsigned w r) ≡ int_wrap w (int_div a b)
  divided e = read_back w r (int_div a b) (e ∙ (λ i. int_wrapping_div w (to_z-of_z w a f i) (to_z-of_z w b g i)) ∙ int_div_is w a b f)

  pub rest : r ≡ int_rem (cast_signed w (cast_unsigned w a)) (cast_signed w (cast_unsigned w b))
      → cast_signed w (cast_unsigned w r) ≡ int_wrap w (int_rem a b)
  rest e = read_back w r (int_rem a b) (e ∙ (λ i. int_rem (to_z-of_z w a f i) (to_z-of_z w b g i)) ∙ int_rem_is w a b f)

-- the distance of a shift, from the bits of a number
module _ (w v : Width) (count : ℕ) (a b : ℤ) (u : ℕ) (f : FitsSigned w a) (g : FitsSigned v b) (h : count ≤ bits v) (d : u ≡ cast_unsigned v (cast_signed v (cast_unsigned v b))) where
  distance : u % 2 ^ count ≡ low_bits count b
  distance = ap (λ n. n % 2 ^ count) (d ∙ ap (cast_unsigned v) (to_z-of_z v b g)) ∙ sym (low_bits_of v count b h g)

  pub shifted_left : 2 ^ count ≤ bits w → (r : ℤ) → r ≡ int_shl w (cast_signed w (cast_unsigned w a)) (u % 2 ^ count)
      → cast_signed w (cast_unsigned w r) ≡ int_wrap w (a *ℤ pos (2 ^ low_bits count b))
  shifted_left l r e =
      let small : low_bits count b < 2 ^ count = subst (λ n. n < 2 ^ count) distance (mod-lt u (pow_pos count)) in
      read_back w r (a *ℤ pos (2 ^ low_bits count b)) (e ∙ (λ i. int_shl w (to_z-of_z w a f i) (distance i)) ∙ int_shl_is w a (low_bits count b) f (lt_of_lt_of_le small l))

  pub shifted_right : (r : ℤ) → r ≡ int_shr (cast_signed w (cast_unsigned w a)) (u % 2 ^ count)
      → cast_signed w (cast_unsigned w r) ≡ int_wrap w (floor_by_power a (low_bits count b))
  shifted_right r e = read_back w r (floor_by_power a (low_bits count b)) (e ∙ (λ i. int_shr (to_z-of_z w a f i) (distance i)) ∙ int_shr_is w a (low_bits count b) f)

  pub shifted_unsigned : (r : ℤ) (m n : ℕ) → m ≡ cast_unsigned w (cast_signed w (cast_unsigned w a)) → n ≡ m / 2 ^ (u % 2 ^ count) → r ≡ cast_signed w n
      → cast_signed w (cast_unsigned w r) ≡ int_wrap w (pos (low_bits (bits w) a / 2 ^ low_bits count b))
  shifted_unsigned r m n p q e =
      let whole : n ≡ cast_unsigned w a / 2 ^ low_bits count b = q ∙ (λ i. (p ∙ ap (cast_unsigned w) (to_z-of_z w a f)) i / 2 ^ distance i) in
      read_back w r (pos (low_bits (bits w) a / 2 ^ low_bits count b)) (e ∙ ap (cast_signed w) whole ∙ ushr_is w a (low_bits count b) f)

-- the low bits of a code's bits, and what they are in a narrower type
pub masked : (count : ℕ) (a : ℤ) (u : ℕ) → count ≤ 32 → FitsSigned w32 a → u ≡ cast_unsigned w32 (cast_signed w32 (cast_unsigned w32 a))
    → bit_and u (2 ^ count - 1) ≡ low_bits count a
masked count a u h f e =
    and_mask u count ∙ ap (λ n. n % 2 ^ count) (e ∙ ap (cast_unsigned w32) (to_z-of_z w32 a f)) ∙ sym (low_bits_of w32 count a h f)

pub low_bits-lt : (count : ℕ) (z : ℤ) → low_bits count z < 2 ^ count
low_bits-lt count (pos n) = mod-lt n (pow_pos count)
low_bits-lt count (negsuc n) = omega (arith, pow_pos count)

int_wrap_low : (w : Width) (z : ℤ) → cast_signed w (low_bits (bits w) z) ≡ int_wrap w z
unfolding int_wrap
int_wrap_low w z = refl

pub fits_wider : (w v : Width) (z : ℤ) → hbits w ≤ hbits v → FitsSigned w z → FitsSigned v z
fits_wider w v z h f = record { sfits = lt_of_lt_of_le f.sfits (pow_mono h) }

pub narrowed : (w : Width) (a r s : ℤ) (u : ℕ) → bits w ≤ 32 → hbits w ≤ 31 → FitsSigned w32 a
    → u ≡ cast_unsigned w32 (cast_signed w32 (cast_unsigned w32 a))
    → s ≡ cast_signed w (bit_and u (2 ^ bits w - 1)) → r ≡ cast_signed w (cast_unsigned w s)
    → cast_signed w32 (cast_unsigned w32 r) ≡ int_wrap w a
narrowed w a r s u h k f p q e =
    let inner : s ≡ int_wrap w a = q ∙ ap (cast_signed w) (masked (bits w) a u h f p) ∙ int_wrap_low w a in
    let outer : r ≡ int_wrap w a = e ∙ read_back w s a inner in
    ap (λ x. cast_signed w32 (cast_unsigned w32 x)) outer ∙ to_z-of_z w32 (int_wrap w a) (fits_wider w w32 (int_wrap w a) k (SFits-int_wrap w a))

pub unsigned_narrowed : (a r : ℤ) (u : ℕ) → FitsSigned w32 a → u ≡ cast_unsigned w32 (cast_signed w32 (cast_unsigned w32 a))
    → r ≡ pos (bit_and u (2 ^ 16 - 1)) → cast_signed w32 (cast_unsigned w32 r) ≡ pos (low_bits 16 a)
unsigned_narrowed a r u f p e =
    let low : r ≡ pos (low_bits 16 a) = e ∙ ap pos (masked 16 a u (omega arith) f p) in
    ap (λ x. cast_signed w32 (cast_unsigned w32 x)) low ∙ to_z-of_z w32 (pos (low_bits 16 a)) (record { sfits = lt_of_lt_of_le (low_bits-lt 16 a) (omega arith) })
