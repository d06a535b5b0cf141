-- How the digits of a number are written from its last one on.
use Rattle.std.proofs.Common.{◌≡◌, ◌∙◌, ap, arith, refl, sym, ℕ, zero, suc, ◌+◌, ◌/◌, ◌%◌, ◌<◌, ◌≤◌, ◌^◌, false, true, List, [], ◌∷◌, drop, length, slice_set, subst, cond, nat_eq}
use Rattle.std.proofs.lemmas.Bool.Decides.{nat_tests}
use Rattle.std.proofs.Math.Nat.{pow-suc}
use Rattle.std.specs.Fmt.{digit_glyph, digits, digits_onto}

-- a digit stands before those that are there
pub drop_put : {A : Type 0} (items : List A) (place : ℕ) (item : A) → place < length items → drop place (slice_set items place item) ≡ item ∷ drop (suc place) items
drop_put [] place item low = absurd (omega (arith, low))
drop_put (first ∷ items) zero item low = refl
drop_put (first ∷ items) (suc place) item low = drop_put items place item (omega (arith, low))

divided_zero : (number : ℕ) → number < 16 → nat_eq (number / 16) 0 ≡ true
divided_zero number low = grind (arith, nat_tests)

divided_more : (number : ℕ) → 16 ≤ number → nat_eq (number / 16) 0 ≡ false
divided_more number high = grind (arith, nat_tests)

-- the digits of what is left of a number before those that are there
pub hex_onto : ℕ → ℕ → List ℕ → List ℕ
hex_onto fuel number behind = digits_onto fuel 16 false number behind

pub digits_all : (number : ℕ) → digits 16 false number ≡ hex_onto 64 number []
unfolding digits hex_onto
digits_all number = refl

more_on : (fuel number : ℕ) (behind : List ℕ) → 16 ≤ number
    → digits_onto (suc fuel) 16 false number behind ≡ digits_onto fuel 16 false (number / 16) (digit_glyph false (number % 16) ∷ behind)
more_on fuel number behind high =
    ap (λ none. cond none (digit_glyph false (number % 16) ∷ behind) (digits_onto fuel 16 false (number / 16) (digit_glyph false (number % 16) ∷ behind))) (divided_more number high)

last_on : (fuel number : ℕ) (behind : List ℕ) → number < 16 → digits_onto (suc fuel) 16 false number behind ≡ digit_glyph false number ∷ behind
last_on fuel number behind low =
    let itself : number % 16 ≡ number = omega (arith, low) in
    ap (λ none. cond none (digit_glyph false (number % 16) ∷ behind) (digits_onto fuel 16 false (number / 16) (digit_glyph false (number % 16) ∷ behind))) (divided_zero number low)
    ∙ ap (λ (digit : ℕ). digit_glyph false digit ∷ behind) itself

-- one digit more, and the first one
pub hex_more : (fuel next number : ℕ) (behind : List ℕ) → fuel ≡ suc next → 16 ≤ number → hex_onto fuel number behind ≡ hex_onto next (number / 16) (digit_glyph false (number % 16) ∷ behind)
unfolding hex_onto
hex_more fuel next number behind is high = ap (λ (fuel : ℕ). digits_onto fuel 16 false number behind) is ∙ more_on next number behind high

pub hex_last : (fuel next number : ℕ) (behind : List ℕ) → fuel ≡ suc next → number < 16 → hex_onto fuel number behind ≡ digit_glyph false number ∷ behind
unfolding hex_onto
hex_last fuel next number behind is low = ap (λ (fuel : ℕ). digits_onto fuel 16 false number behind) is ∙ last_on next number behind low

-- where a digit is put before those that are there
pub put_so : (items : List ℕ) (place at item digit : ℕ) → item ≡ digit → at ≡ place → place < length items → digit ∷ drop (place + 1) items ≡ drop at (slice_set items place item)
put_so items place at item digit is same low =
    let next : place + 1 ≡ suc place = omega arith in
    sym (ap (λ (at : ℕ). drop at (slice_set items place item)) same
    ∙ drop_put items place item low
    ∙ ap (λ (item : ℕ). item ∷ drop (suc place) items) is
    ∙ ap (λ (next : ℕ). digit ∷ drop next items) (sym next))

-- a number of so many digits has one less when it is divided, and there is room before the last one where it isn't below 16
pub some_before : (number place : ℕ) → 16 ≤ number → number < 16 ^ (place + 1) → 1 ≤ place
some_before number zero high low =
    let few : number < 16 = low in
    absurd (omega (arith, few, high))
some_before number (suc place) high low = omega arith

pub fewer_digits : (number place at : ℕ) → number < 16 ^ (place + 1) → at + 1 ≡ place → number / 16 < 16 ^ (at + 1)
fewer_digits number place at low same =
    let next : place + 1 ≡ suc place = omega arith in
    let few : number < 16 ^ suc place = subst (λ (next : ℕ). number < 16 ^ next) next low in
    subst (λ (place : ℕ). number / 16 < 16 ^ place) (sym same) (omega (arith, few, pow-suc 16 place))
