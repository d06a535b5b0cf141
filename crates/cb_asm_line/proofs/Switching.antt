-- Words that are each one of a kind, and pairs of words.
use Rattle.std.proofs.Common.{◌≡◌, ◌≢◌, ◌∙◌, ap, refl, arith, ℕ, zero, suc, ◌+◌, ◌*◌, ◌%◌, ◌<◌, ℤ, FitsSigned, w32, List, Bor, [], ◌∷◌, length, drop, get_or, map}
use Rattle.std.specs.List.{AllByRecursion, flat_map}
use Rattle.std.proofs.lemmas.List.{length-map}
use Rattle.cb_asm_line.specs.Label.{Label}
use Rattle.cb_asm_line.specs.Lines.{Line, Word}
use Rattle.cb_asm_line.specs.Numbers.{IsDecimal, signed_decimal}
use Rattle.cb_asm_line.specs.Operands.{label_word}
use Rattle.cb_asm_line.specs.SaidCode.{ArePairs, SaysPair, pair_words}

-- so many words are the items that are read
pub record IsRead {T : Type 0} (Is : T → Type 0) (spell : T → Word) (words : Line) (items : List T) : Type 0 where
  pub each : AllByRecursion Is items
  pub are : words ≡ map spell items

-- where a word is none of them, the words are no items
pub none_read : {T : Type 0} (Is : T → Type 0) (spell : T → Word) (words : List (Bor (List ℕ))) (place : ℕ) (other : Bor (List ℕ)) → place < length words
    → ((item : T) → Is item → (get_or words place other).now ≢ spell item) → (items : List T) → AllByRecursion Is items → map (λ word. word.now) words ≢ map spell items
none_read Is spell [] place other within none items all are = omega (arith, within)
none_read Is spell (word ∷ words) place other within none [] all are = absurd (cc are)
none_read Is spell (word ∷ words) zero other within none (item ∷ items) all are = none item all.0 (cc are)
none_read Is spell (word ∷ words) (suc place) other within none (item ∷ items) all are = none_read Is spell words place other (omega (arith, within)) none items all.1 (ap (drop 1) are)

-- where two words are no pair
abbrev pub IsPair : ℤ × Label → Type 0
IsPair pair = FitsSigned w32 pair.0 × IsDecimal pair.1

not_at : (words : List (Bor (List ℕ))) (place first second : ℕ) (other : Bor (List ℕ)) (pairs : List (ℤ × Label)) → first ≡ 2 * place → second ≡ 2 * place + 1 → second < length words
    → ((pair : ℤ × Label) → SaysPair (get_or words first other).now (get_or words second other).now pair → ⊥) → AllByRecursion IsPair pairs → map (λ word. word.now) words ≢ flat_map pair_words pairs
not_at [] place first second other pairs one two within none each are = omega (arith, within)
not_at (a ∷ []) place first second other pairs one two within none each are = omega (arith, within, two)
not_at (a ∷ b ∷ words) place first second other [] one two within none each are = absurd (cc are)
not_at (a ∷ b ∷ words) zero first second other (pair ∷ pairs) one two within none each are =
    let start : first ≡ 0 = omega (arith, one) in let next : second ≡ 1 = omega (arith, two) in
    none pair (record {
      key = record { fits = each.0.0; spelled = ap (λ at. (get_or (a ∷ b ∷ words) at other).now) start ∙ (let is : a.now ≡ signed_decimal pair.0 = cc are in is) };
      label = record { digits = each.0.1; spelled = ap (λ at. (get_or (a ∷ b ∷ words) at other).now) next ∙ (let is : b.now ≡ label_word pair.1 = cc are in is) };
    })
not_at (a ∷ b ∷ words) (suc place) first second other (pair ∷ pairs) one two within none each are =
    let start : first ≡ suc (suc (2 * place)) = omega (arith, one) in let next : second ≡ suc (suc (2 * place + 1)) = omega (arith, two) in
    not_at words place (2 * place) (2 * place + 1) other pairs refl refl (omega (arith, within, next))
    (λ given says. none given (record {
      key = record { fits = says.key.fits; spelled = ap (λ at. (get_or (a ∷ b ∷ words) at other).now) start ∙ says.key.spelled };
      label = record { digits = says.label.digits; spelled = ap (λ at. (get_or (a ∷ b ∷ words) at other).now) next ∙ says.label.spelled };
    })) each.1 (ap (drop 2) are)

pub not_there : (words : List (Bor (List ℕ))) (place : ℕ) (other : Bor (List ℕ)) (pairs : List (ℤ × Label)) → 2 * place + 1 < length words
    → ((pair : ℤ × Label) → SaysPair (get_or words (2 * place) other).now (get_or words (2 * place + 1) other).now pair → ⊥) → ArePairs (map (λ word. word.now) words) pairs → ⊥
not_there words place other pairs within none read = not_at words place (2 * place) (2 * place + 1) other pairs refl refl within none read.each read.are

-- where one is left over
pairs_even : (pairs : List (ℤ × Label)) → length (flat_map pair_words pairs) ≡ 2 * length pairs
pairs_even [] = refl
pairs_even (pair ∷ pairs) = let rest = pairs_even pairs in omega (arith, rest)

pub odd_words : (words : List (Bor (List ℕ))) (pairs : List (ℤ × Label)) → length words % 2 ≡ 1 → ArePairs (map (λ word. word.now) words) pairs → ⊥
odd_words words pairs odd read =
    let counted : length (map (λ word. word.now) words) ≡ length words = length-map words (λ word. word.now) in
    let even = ap length read.are ∙ pairs_even pairs in omega (arith, counted, even, odd)
