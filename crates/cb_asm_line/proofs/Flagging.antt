-- The words of flags, one by one.
use Rattle.std.proofs.Common.{◌≡◌, ◌≢◌, ◌∙◌, ap, sym, refl, arith, append-nil, pow-suc, ℕ, ◌*◌, ◌/◌, ◌%◌, ◌^◌, ◌-◌, ◌<◌, ◌≤◌, Bool, true, false, List, Bor, [], ◌∷◌, ◌++◌, length, take, drop, map, get_or, ◌==◌, if◌then◌else◌, codes}
use Rattle.std.proofs.lemmas.Bool.{eq-eqb, eqb-false}
use Rattle.std.proofs.lemmas.List.{take_all}
use Rattle.cb_asm_line.specs.Flags.{plus, set_words, joined, flags_word}
use Rattle.cb_asm_line.specs.Inner.{word_behind, words_behind}
use Rattle.cb_asm_line.specs.Lines.{Word}

-- the first word and those behind it
pub first_behind : (begun : Bool) (word : Word) (words : List Word) → words_behind begun (word ∷ words) ≡ word_behind begun word ++ words_behind true words
first_behind true word words = refl
first_behind false word [] = sym (append-nil word)
first_behind false word (next ∷ words) = ap (λ rest. word ++ plus ∷ rest) (first_behind false next words)

-- no word of no flag, and some word of some
none_set : (words : List Word) → set_words words 0 ≡ []
none_set [] = refl
none_set (word ∷ words) = none_set words

pub zero_word : (words : List Word) (flags : ℕ) → flags ≡ 0 → flags_word words flags ≡ codes "0"
zero_word words flags is = ap (flags_word words) is ∙ ap joined (none_set words)

pub some_words : (words : List Word) (flags : ℕ) → 0 < flags → flags < 2 ^ length words → flags_word words flags ≡ words_behind false (set_words words flags)
some_words [] flags some few = absurd (omega (arith, some, few))
some_words (word ∷ words) flags some few = by_test (flags % 2 == 1) refl (some_words words (flags / 2))
  where
    by_test : (test : Bool) → (flags % 2 == 1) ≡ test → (0 < flags / 2 → flags / 2 < 2 ^ length words → joined (set_words words (flags / 2)) ≡ words_behind false (set_words words (flags / 2)))
        → joined (if test then word ∷ set_words words (flags / 2) else set_words words (flags / 2)) ≡ words_behind false (if test then word ∷ set_words words (flags / 2) else set_words words (flags / 2))
    by_test true told next = refl
    by_test false told next =
        let even : flags % 2 ≢ 1 = eqb-false (flags % 2) 1 told in
        let double : 2 ^ length (word ∷ words) ≡ 2 ^ length words * 2 = pow-suc 2 (length words) in
        next (omega (arith, some, even)) (omega (arith, few, double))

-- the first word of some, where its bit is set
pub one_more : (begun : Bool) (words : List (Bor (List ℕ))) (flags : ℕ) (other : Bor (List ℕ)) → 1 ≤ length words → flags % 2 ≡ 1
    → words_behind begun (set_words (map (λ word. word.now) words) flags)
    ≡ word_behind begun (get_or words 0 other).now ++ words_behind true (set_words (map (λ word. word.now) (take (length words - 1) (drop 1 words))) (flags / 2))
one_more begun [] flags other some odd = absurd (omega (arith, some))
one_more begun (word ∷ words) flags other some odd =
    ap (λ test. words_behind begun (if test then word.now ∷ set_words (map (λ word. word.now) words) (flags / 2) else set_words (map (λ word. word.now) words) (flags / 2))) (eq-eqb (flags % 2) 1 odd)
    ∙ first_behind begun word.now (set_words (map (λ word. word.now) words) (flags / 2))
    ∙ ap (λ rest. word_behind begun word.now ++ words_behind true (set_words (map (λ word. word.now) rest) (flags / 2))) (sym (take_all _ words (omega arith)))
