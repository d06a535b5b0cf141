-- Bits of numbers, one by one.
use Rattle.std.proofs.Common.{◌≡◌, ◌+◌, ◌-◌, ◌/◌, ◌%◌, ◌^◌, ◌<◌, ℕ, suc, ℤ, pos, negsuc, Bool, true, false, min, max, sym, refl, ap, ◌∙◌, arith, mod-lt, pow_pos}
use Rattle.std.proofs.Math.Nat.{div-add-mod'}
use Rattle.std.specs.Prelude.{FitsSigned, ltb}
use Rattle.std.specs.Int.{Width, bit_at, bit_not, cast_signed, cast_unsigned, int_wrap}
use Rattle.std.proofs.lemmas.Int.{to_z-of_z}
use Rattle.std.proofs.lemmas.Nat.Bits.{bit_at_and, bit_at_or, bit_at_xor, bit_at_cat_low, bit_at_not, bit_at-lt, same_from_bits_below}
use mir.Val.{bits, hbits, sel}
use Rattle.cb_arith.specs.Bits.{bit, bits_and, bits_or, bits_xor, low_bits}
use Rattle.cb_arith.proofs.Wrapping.{below, low_bits-lt, low_bits_whole}

-- a bit among the low ones
bit_at_low : (count n place : ℕ) → place < count → bit_at (n % 2 ^ count) place ≡ bit_at n place
bit_at_low count n place h =
    sym (bit_at_cat_low (n / 2 ^ count) count (n % 2 ^ count) place h) ∙ ap (λ x. bit_at x place) (div-add-mod' n (2 ^ count))

pub bit_of_low : (w : Width) (z : ℤ) (place : ℕ) → place < bits w → bit_at (low_bits (bits w) z) place ≡ bit place z
bit_of_low w (pos n) place h = bit_at_low (bits w) n place h
bit_of_low w (negsuc n) place h =
    let turned = bit_at_not w (n % 2 ^ bits w) place (mod-lt n (pow_pos (bits w))) h in
    turned ∙ ap (λ x. 1 - x) (bit_at_low (bits w) n place h)

-- the bits of what has them
bit_of_bits : (w : Width) (n place : ℕ) → n < 2 ^ bits w → place < bits w → bit place (cast_signed w n) ≡ bit_at n place
bit_of_bits w n place h k = by (ltb n (2 ^ hbits w))
  where
    by : (t : Bool) → bit place (sel t (pos n) (negsuc (2 ^ bits w - suc n))) ≡ bit_at n place
    by true = refl
    by false =
        let turned : 2 ^ bits w - suc n ≡ bit_not w n = omega arith in
        let other = bit_at_not w n place h k in
        let small = bit_at-lt n place in
        ap (λ x. 1 - bit_at x place) turned ∙ omega arith

pub bit_kept : (w : Width) (z : ℤ) (place : ℕ) → place < bits w → bit place (int_wrap w z) ≡ bit place z
unfolding int_wrap
bit_kept w z place h = bit_of_bits w (low_bits (bits w) z) place (low_bits-lt (bits w) z) h ∙ bit_of_low w z place h

pub no_other_bits : (w : Width) (a b : ℤ) → FitsSigned w a → FitsSigned w b
    → ((place : ℕ) → place < bits w → bit place a ≡ bit place b) → a ≡ b
no_other_bits w a b f g same =
    let at : (z : ℤ) (h : FitsSigned w z) (place : ℕ) → place < bits w → bit_at (cast_unsigned w z) place ≡ bit place z
    = λ z h place k. ap (λ n. bit_at n place) (sym (low_bits_whole w z h)) ∙ bit_of_low w z place k in
    let alike : cast_unsigned w a ≡ cast_unsigned w b
    = same_from_bits_below (bits w) (cast_unsigned w a) (cast_unsigned w b) (below w a f) (below w b g)
    (λ place k. at a f place k ∙ same place k ∙ sym (at b g place k)) in
    sym (to_z-of_z w a f) ∙ ap (cast_signed w) alike ∙ to_z-of_z w b g

module _ (w : Width) (a b : ℤ) (place : ℕ) (h : place < bits w) where
  pub bit_of_both : bit place (bits_and (bits w) a b) ≡ min (bit place a) (bit place b)
  bit_of_both = bit_at_and (low_bits (bits w) a) (low_bits (bits w) b) place ∙ (λ i. min (bit_of_low w a place h i) (bit_of_low w b place h i))

  pub bit_of_either : bit place (bits_or (bits w) a b) ≡ max (bit place a) (bit place b)
  bit_of_either = bit_at_or (low_bits (bits w) a) (low_bits (bits w) b) place ∙ (λ i. max (bit_of_low w a place h i) (bit_of_low w b place h i))

  pub bit_of_one : bit place (bits_xor (bits w) a b) ≡ (bit place a + bit place b) % 2
  bit_of_one = bit_at_xor (low_bits (bits w) a) (low_bits (bits w) b) place ∙ (λ i. (bit_of_low w a place h i + bit_of_low w b place h i) % 2)
