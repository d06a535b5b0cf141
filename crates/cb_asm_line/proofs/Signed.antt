-- Numbers with a sign, by what stands first.
use Rattle.std.proofs.Common.{◌≡◌, ◌≢◌, ◌∙◌, ap, sym, arith, ℕ, zero, suc, ◌+◌, ◌-◌, ◌<◌, ◌≤◌, ◌^◌, ℤ, pos, negsuc, List, [], ◌∷◌, Option, Some, None, get_or, w16, w32, w64, length, take, drop, FitsSigned, MatchOption}
use Rattle.std.proofs.lemmas.Fmt.{decimal_injective, first_decimal, decimal_digit}
use Rattle.std.proofs.lemmas.List.{take_all}
use Rattle.cb_asm_line.specs.Numbers.{decimal, signed_decimal}

-- no number begins with a minus
no_minus : (n : ℕ) (rest : List ℕ) → n < 2 ^ 63 → 45 ∷ rest ≡ decimal n → ⊥
no_minus zero rest below is =
    let first : 45 ≡ get_or (decimal zero) 0 0 = ap (λ text. get_or text 0 0) is in
    let digit : get_or (decimal zero) 0 0 ≡ 48 = ap (λ text. get_or text 0 0) (decimal_digit zero (omega arith)) in
    omega (arith, first, digit)
no_minus (suc n) rest below is =
    let first : 45 ≡ get_or (decimal (suc n)) 0 0 = ap (λ text. get_or text 0 0) is in
    let digit : 48 < get_or (decimal (suc n)) 0 0 = first_decimal (suc n) (omega arith) (omega arith) in
    omega (arith, first, digit)

-- the units of a word that has one
pub first_and_rest : (word : List ℕ) → 1 ≤ length word → word ≡ get_or word 0 0 ∷ take (length word - 1) (drop 1 word)
first_and_rest [] some = absurd (omega (arith, some))
first_and_rest (unit ∷ word) some = ap (λ rest. unit ∷ rest) (sym (take_all _ word (omega arith)))

-- a number whose digits stand behind a minus is the number of the word
pub with_minus : (digits : List ℕ) (result : Option ℤ)
    → MatchOption result ((below : ℕ) → below < 2 ^ 63 → digits ≢ decimal (below + 1)) (λ number. (below : ℕ) × (number ≡ negsuc below) × (digits ≡ decimal (below + 1)))
    → MatchOption result ((number : ℤ) → FitsSigned w64 number → 45 ∷ digits ≢ signed_decimal number) (λ number. 45 ∷ digits ≡ signed_decimal number)
with_minus digits None none = other
  where
    other : (number : ℤ) → FitsSigned w64 number → 45 ∷ digits ≢ signed_decimal number
    other (pos n) fits is = no_minus n digits (grind (arith, fits)) is
    other (negsuc n) fits is = none n (grind (arith, fits)) (ap (drop 1) is ∙ ap decimal (omega arith))
with_minus digits (Some number) (below, is, digits_are) = ap (λ text. 45 ∷ text) (digits_are ∙ ap decimal (omega arith)) ∙ ap signed_decimal (sym is)

-- a number is written in one way, and a way is of one number
pub signed_same : (one other : ℤ) → FitsSigned w64 one → FitsSigned w64 other → signed_decimal one ≡ signed_decimal other → one ≡ other
signed_same (pos one) (pos other) fits fit is = ap pos (decimal_injective one other (omega arith) (omega arith) is)
signed_same (pos one) (negsuc other) fits fit is = absurd (no_minus one (decimal (suc other)) (omega arith) (sym is))
signed_same (negsuc one) (pos other) fits fit is = absurd (no_minus other (decimal (suc one)) (omega arith) is)
signed_same (negsuc one) (negsuc other) fits fit is =
    let same : suc one ≡ suc other = decimal_injective (suc one) (suc other) (omega arith) (omega arith) (ap (drop 1) is) in ap negsuc (omega (arith, same))

pub wider : (number : ℤ) → FitsSigned w32 number → FitsSigned w64 number
wider (pos number) fits = grind (arith, fits)
wider (negsuc number) fits = grind (arith, fits)

pub short_fits : (number : ℤ) → FitsSigned w16 number → FitsSigned w64 number
short_fits (pos number) fits = grind (arith, fits)
short_fits (negsuc number) fits = grind (arith, fits)
