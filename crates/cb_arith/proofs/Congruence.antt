-- The low bits of a number, and what is left of it in two's complement.
use Rattle.std.proofs.Common.{◌≡◌, ◌*◌, ◌+◌, ◌-◌, ◌/◌, ◌^◌, ◌<◌, ℕ, suc, ℤ, pos, negsuc, neg_ℤ, ◌+ℤ◌, ◌*ℤ◌, Bool, true, false, sym, refl, ap, ◌∙◌, arith, mod-lt, mod-eq_of_lt, pow_pos}
use Rattle.std.proofs.Math.Nat.{add-mul-mod_self_right, div-add-mod'}
use Rattle.std.specs.Prelude.{FitsSigned, ltb, unsigned_abs}
use Rattle.std.specs.Int.{Width, cast_signed, int_wrap}
use Rattle.std.proofs.lemmas.Int.{ints, int_rem_euclid_is, int_wrap_fits, int_wrap-add_right, to_z_pos}
use borrow.Author.Differences.{neg_is, sum_is_lem}
use lib.IntN.{+ℤ_idr}
use mir.Val.{bits, hbits, sel}
use Rattle.cb_arith.specs.Bits.{low_bits}
use Rattle.cb_arith.specs.Laws.{IsCongruent}
use Rattle.cb_arith.proofs.Wrapping.{low_bits-lt}

times-+ : (a b : ℤ) (m : ℕ) → (a +ℤ b) *ℤ pos m ≡ a *ℤ pos m +ℤ b *ℤ pos m
times-+ a b m = let all = ap (λ x. x * m) (sum_is_lem a b) in omega (arith, ints)

congruent_trans : (count : ℕ) (a b c : ℤ) → IsCongruent count a b → IsCongruent count b c → IsCongruent count a c
congruent_trans count a b c p q =
    let d = p.1 in
    let e = q.1 in
    let all = times-+ p.0 q.0 (2 ^ count) in
    (p.0 +ℤ q.0, omega (arith, ints))

pub low_bits_congruent : (count : ℕ) (z : ℤ) → IsCongruent count (pos (low_bits count z)) z
low_bits_congruent count (pos n) =
    let m = 2 ^ count in
    let up_all = ap (λ x. x * m) (neg_is (pos (n / m))).0 in
    let down_all = ap (λ x. x * m) (neg_is (pos (n / m))).1 in
    (neg_ℤ (pos (n / m)), omega (arith, ints, div-add-mod' n m))
low_bits_congruent count (negsuc n) =
    let m = 2 ^ count in
    let small = mod-lt n (pow_pos count) in
    (pos (suc (n / m)), omega (arith, ints, div-add-mod' n m))

-- a number below the power that is congruent is what the low bits are
pub low_bits_only : (count : ℕ) (z : ℤ) (n : ℕ) → n < 2 ^ count → IsCongruent count (pos n) z → n ≡ low_bits count z
low_bits_only count z n h (pos k, e) =
    let is : z +ℤ pos (k * 2 ^ count) ≡ pos n = sym e in
    sym (ap unsigned_abs (int_rem_euclid_is z (pos (2 ^ count)) (2 ^ count) k n (pow_pos count) refl is) ∙ mod-eq_of_lt h)
low_bits_only count z n h (negsuc k, e) =
    let m = 2 ^ count in
    let is : z ≡ pos (n + suc k * m) = omega (arith, ints) in
    sym (ap (low_bits count) is ∙ add-mul-mod_self_right n (suc k) m ∙ mod-eq_of_lt h)

-- ---- what is left of a number, in two's complement

cast_congruent : (w : Width) (n : ℕ) → n < 2 ^ bits w → IsCongruent (bits w) (cast_signed w n) (pos n)
cast_congruent w n h = by (ltb n (2 ^ hbits w))
  where
    by : (t : Bool) → IsCongruent (bits w) (sel t (pos n) (negsuc (2 ^ bits w - suc n))) (pos n)
    by true = (pos 0, omega (arith, ints))
    by false = (negsuc 0, omega (arith, ints))

pub int_wrap_congruent : (w : Width) (z : ℤ) → IsCongruent (bits w) (int_wrap w z) z
unfolding int_wrap
int_wrap_congruent w z =
    congruent_trans (bits w) (int_wrap w z) (pos (low_bits (bits w) z)) z
    (cast_congruent w (low_bits (bits w) z) (low_bits-lt (bits w) z)) (low_bits_congruent (bits w) z)

whole_turn : (w : Width) (times : ℤ) → int_wrap w (times *ℤ pos (2 ^ bits w)) ≡ pos 0
unfolding int_wrap
whole_turn w times =
    let m = 2 ^ bits w in
    let up_all = ap (λ x. x * m) (neg_is times).0 in
    let down_all = ap (λ x. x * m) (neg_is times).1 in
    let none : 0 ≡ low_bits (bits w) (times *ℤ pos m) = low_bits_only (bits w) (times *ℤ pos m) 0 (pow_pos (bits w)) (neg_ℤ times, omega (arith, ints)) in
    ap (cast_signed w) (sym none) ∙ to_z_pos w 0 (pow_pos (hbits w))

-- a number that fits and is congruent is what is left
pub int_wrap_only : (w : Width) (z r : ℤ) → FitsSigned w r → IsCongruent (bits w) r z → r ≡ int_wrap w z
int_wrap_only w z r f (times, e) =
    sym (int_wrap_fits w r f) ∙ ap (int_wrap w) e ∙ sym (int_wrap-add_right w z (times *ℤ pos (2 ^ bits w)))
    ∙ ap (λ x. int_wrap w (z +ℤ x)) (whole_turn w times) ∙ ap (int_wrap w) (+ℤ_idr z)
