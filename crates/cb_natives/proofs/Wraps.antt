-- What is left of numbers in two's complement.
use Rattle.std.proofs.Common.{◌≡◌, ◌∙◌, ap, arith, ℤ, pos, ◌+ℤ◌, ◌*ℤ◌, ◌-ℤ◌, ◌^◌, FitsSigned, Some, subst, sym, w32, w64}
use Rattle.std.proofs.lemmas.Int.{SFits-int_wrap, int_wrap-add_left, int_wrap-mul_left, int_wrap-sub_right, ints, to_z-of_z}
use Rattle.std.specs.Int.{Width, int_wrap}
use mir.Val.{of_z, to_z}
use Rattle.cb_arith.specs.Bits.{bits_xor}
use Rattle.cb_arith.proofs.Laws.{int_wrap_congruent, int_wrap_only}

pub rest_so : (w : Width) (whole other number one product result : ℤ) → result ≡ int_wrap w (whole -ℤ product) → product ≡ int_wrap w (one *ℤ other) → one ≡ int_wrap w number
    → result ≡ int_wrap w (whole -ℤ number *ℤ other)
rest_so w whole other number one product result less times is =
    less ∙ ap (λ product. int_wrap w (whole -ℤ product)) (times ∙ ap (λ one. int_wrap w (one *ℤ other)) is ∙ int_wrap-mul_left w number other) ∙ int_wrap-sub_right w whole (number *ℤ other)

pub hash_so : (sum number unit product result : ℤ) → sum ≡ int_wrap w32 number → product ≡ int_wrap w32 (sum *ℤ pos 31) → result ≡ int_wrap w32 (product +ℤ unit)
    → result ≡ int_wrap w32 (number *ℤ pos 31 +ℤ unit)
hash_so sum number unit product result is times plus =
    plus ∙ ap (λ product. int_wrap w32 (product +ℤ unit)) (times ∙ ap (λ sum. int_wrap w32 (sum *ℤ pos 31)) is ∙ int_wrap-mul_left w32 number (pos 31)) ∙ int_wrap-add_left w32 (number *ℤ pos 31) unit

-- what is left in 32 bits of what is left in 64
multiples : (low number high more : ℤ) → high ≡ number +ℤ more *ℤ pos (2 ^ 64) → (times : ℤ) → low ≡ high +ℤ times *ℤ pos (2 ^ 32) → low ≡ number +ℤ (more *ℤ pos (2 ^ 32) +ℤ times) *ℤ pos (2 ^ 32)
multiples low number high more one times other = omega (arith, ints)

pub low_twice : (number : ℤ) → int_wrap w32 (int_wrap w64 number) ≡ int_wrap w32 number
low_twice number =
    let high = int_wrap_congruent w64 number in
    let low = int_wrap_congruent w32 (int_wrap w64 number) in
    int_wrap_only w32 number (int_wrap w32 (int_wrap w64 number)) (SFits-int_wrap w32 (int_wrap w64 number))
    (high.0 *ℤ pos (2 ^ 32) +ℤ low.0, multiples (int_wrap w32 (int_wrap w64 number)) number (int_wrap w64 number) high.0 high.1 low.0 low.1)

pub hash_of_long_so : (number shifted other bits result : ℤ) → shifted ≡ other → Some (int_wrap w64 (bits_xor 64 number shifted)) ≡ Some bits → result ≡ int_wrap w32 (to_z w64 (of_z w64 bits))
    → result ≡ int_wrap w32 (bits_xor 64 number other)
hash_of_long_so number shifted other bits result same xor low =
    let bits_are : bits ≡ int_wrap w64 (bits_xor 64 number shifted) = cc in
    let wide : to_z w64 (of_z w64 bits) ≡ bits = to_z-of_z w64 bits (subst (FitsSigned w64) (sym bits_are) (SFits-int_wrap w64 (bits_xor 64 number shifted))) in
    low ∙ ap (int_wrap w32) (wide ∙ bits_are) ∙ low_twice (bits_xor 64 number shifted) ∙ ap (λ shifted. int_wrap w32 (bits_xor 64 number shifted)) same
