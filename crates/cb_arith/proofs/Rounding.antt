-- Quotients and remainders.
use Rattle.std.proofs.Common.{◌≡◌, ◌≢◌, ◌*◌, ◌/◌, ◌^◌, ◌<◌, ◌≤◌, ℕ, zero, suc, ℤ, pos, negsuc, neg_ℤ, ◌+ℤ◌, ◌*ℤ◌, ◌≤ℤ◌, refl, ap, ◌∙◌, arith, mod-lt, pow_pos}
use Rattle.std.proofs.Math.Nat.{div-add-mod', div-le_self, le-mul_of_pos_right, mod-le, pos_of_ne-zero}
use Rattle.std.specs.Prelude.{FitsSigned, int_div, int_rem, unsigned_abs}
use Rattle.std.specs.Int.{Width, int_wrap}
use Rattle.std.proofs.lemmas.Int.{ints, int_wrap-add_right, int_wrap-add_same, int_wrap-mul_left, int_wrap_fits, quot-rem, rem_below, unsigned_abs-mul}
use Rattle.std.proofs.lemmas.Nat.{le-div}
use Rattle.cb_arith.specs.Bits.{floor_by_power}
use Rattle.cb_arith.specs.Laws.{IsQuotient, IsRemainder, IsRoundedDown}

pub rounded_down : (number : ℤ) (times : ℕ) → IsRoundedDown number (pos (2 ^ times)) (floor_by_power number times)
rounded_down (pos n) times =
    let m = 2 ^ times in
    let whole = div-add-mod' n m in
    let small = mod-lt n (pow_pos times) in
    record { within = omega (arith, ints); less = omega (arith, ints) }
rounded_down (negsuc n) times =
    let m = 2 ^ times in
    let whole = div-add-mod' n m in
    let small = mod-lt n (pow_pos times) in
    record { within = omega (arith, ints); less = omega (arith, ints) }

-- ---- rounded toward zero

size_neg : (n : ℕ) → unsigned_abs (neg_ℤ (pos n)) ≡ n
size_neg zero = refl
size_neg (suc n) = refl

pub size_is : (a b : ℤ) → unsigned_abs (int_div a b) ≡ unsigned_abs a / unsigned_abs b
size_is (pos a) (pos b) = refl
size_is (pos a) (negsuc b) = size_neg (a / suc b)
size_is (negsuc a) (pos b) = size_neg (suc a / b)
size_is (negsuc a) (negsuc b) = refl

-- a product is 0 only where the quotient is
none_of_none : (a b : ℕ) → 0 < b → a * b ≤ 0 → a / b ≤ 0
none_of_none a b h k = omega (arith, le-mul_of_pos_right a h, div-le_self a b)

quotient_not_negative : (a b : ℤ) → 0 < unsigned_abs b → pos 0 ≤ℤ (a *ℤ b) → pos 0 ≤ℤ int_div a b
quotient_not_negative (pos a) (pos b) h k = omega (arith, ints)
quotient_not_negative (pos a) (negsuc b) h k = let none = none_of_none a (suc b) h (omega (arith, ints)) in omega (arith, ints)
quotient_not_negative (negsuc a) (pos b) h k = let none = none_of_none (suc a) b h (omega (arith, ints)) in omega (arith, ints)
quotient_not_negative (negsuc a) (negsuc b) h k = omega (arith, ints)

quotient_not_positive : (a b : ℤ) → 0 < unsigned_abs b → (a *ℤ b) ≤ℤ pos 0 → int_div a b ≤ℤ pos 0
quotient_not_positive (pos a) (pos b) h k = let none = none_of_none a b h (omega (arith, ints)) in omega (arith, ints)
quotient_not_positive (pos a) (negsuc b) h k = omega (arith, ints)
quotient_not_positive (negsuc a) (pos b) h k = omega (arith, ints)
quotient_not_positive (negsuc a) (negsuc b) h k = let none = none_of_none (suc a) (suc b) h (omega (arith, ints)) in omega (arith, ints)

some_size : (b : ℤ) → b ≢ pos 0 → 0 < unsigned_abs b
some_size (pos n) h = pos_of_ne-zero (λ e. h (ap pos e))
some_size (negsuc n) h = omega arith

pub quotient_is : (a b : ℤ) → b ≢ pos 0 → IsQuotient a b (int_div a b)
quotient_is a b h =
    let some = some_size b h in
    let size = size_is a b in
    record {
      within = omega (arith, unsigned_abs-mul b (int_div a b), ap (λ n. unsigned_abs b * n) size, div-add-mod' (unsigned_abs a) (unsigned_abs b));
      largest = λ other k. omega (arith, le-div (unsigned_abs other) (unsigned_abs a) (unsigned_abs b) some (omega (arith, unsigned_abs-mul b other)));
      not_negative = quotient_not_negative a b some;
      not_positive = quotient_not_positive a b some;
    }

remainder_not_negative : (a b : ℤ) → pos 0 ≤ℤ a → pos 0 ≤ℤ int_rem a b
remainder_not_negative (pos a) b h = omega (arith, ints)
remainder_not_negative (negsuc a) b h = absurd (omega (arith, ints))

remainder_not_positive : (a b : ℤ) → a ≤ℤ pos 0 → int_rem a b ≤ℤ pos 0
remainder_not_positive (pos a) b h = let less = mod-le a (unsigned_abs b) in omega (arith, ints)
remainder_not_positive (negsuc a) b h = omega (arith, ints)

pub remainder_is : (a b : ℤ) → b ≢ pos 0 → IsRemainder a b (int_div a b) (int_rem a b)
remainder_is a b h = record {
  whole = quot-rem a b;
  smaller = rem_below a b (some_size b h);
  not_negative = remainder_not_negative a b;
  not_positive = remainder_not_positive a b;
}

pub together : (w : Width) (a b : ℤ) → FitsSigned w a → int_wrap w (int_wrap w (int_div a b) *ℤ b +ℤ int_wrap w (int_rem a b)) ≡ a
together w a b f =
    int_wrap-add_right w (int_wrap w (int_div a b) *ℤ b) (int_rem a b)
    ∙ int_wrap-add_same w (int_wrap w (int_div a b) *ℤ b) (int_div a b *ℤ b) (int_rem a b) (int_wrap-mul_left w (int_div a b) b)
    ∙ ap (int_wrap w) (quot-rem a b) ∙ int_wrap_fits w a f
