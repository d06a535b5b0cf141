-- Flags read off a word, one by one.
use Rattle.std.proofs.Common.{◌≡◌, ◌≢◌, ◌⊎◌, ◌∙◌, ap, sym, refl, subst, inl, inr, arith, pow-suc, ℕ, ◌+◌, ◌*◌, ◌/◌, ◌%◌, ◌^◌, ◌<◌, ◌≤◌, Bool, true, false, List, [], ◌∷◌, ◌++◌, length, ◌==◌, if◌then◌else◌, codes, ◌-◌, Bor, take, drop, map, get_or, Option, Some, None, MatchOption, option_map}
use Rattle.std.proofs.lemmas.Bool.{eq-eqb, eqb-false, eqb-true}
use Rattle.std.proofs.lemmas.List.{append_cancel_left, length-map, take_all}
use Rattle.std.proofs.Math.Nat.{pow-le-pow_right}
use Rattle.cb_asm_line.specs.Flags.{flags_word, set_words}
use Rattle.cb_asm_line.specs.Inner.{AreSet, word_behind, words_behind}
use Rattle.cb_asm_line.specs.Lines.{Word}
use Rattle.cb_asm_line.proofs.Flagging.{first_behind, some_words, zero_word}

pub ended : AreSet true [] [] 0
ended = record { fits = omega arith; some = λ is. absurd (cc is); spelled = refl }

-- behind the last word is nothing
pub not_ended : (begun : Bool) (word : List ℕ) (flags : ℕ) → AreSet begun [] word flags → (begun ≡ true) × (word ≡ [])
not_ended true word flags set = (refl, set.spelled)
not_ended false word flags set =
    let some : 0 < flags = set.some refl in let fits : flags < 2 ^ 0 = set.fits in absurd (omega (arith, some, fits))

double : (word : Word) (words : List Word) → 2 ^ length (word ∷ words) ≡ 2 ^ length words * 2
double word words = pow-suc 2 (length words)

-- where the first is set, and where it isn't
words_odd : (begun : Bool) (first : Word) (words : List Word) (flags : ℕ) → flags % 2 ≡ 1 → words_behind begun (set_words (first ∷ words) flags) ≡ word_behind begun first ++ words_behind true (set_words words (flags / 2))
words_odd begun first words flags odd =
    ap (λ test. words_behind begun (if test then first ∷ set_words words (flags / 2) else set_words words (flags / 2))) (eq-eqb (flags % 2) 1 odd)
    ∙ first_behind begun first (set_words words (flags / 2))

words_even : (words : List Word) (first : Word) (flags : ℕ) → flags % 2 ≢ 1 → set_words (first ∷ words) flags ≡ set_words words (flags / 2)
words_even words first flags even = by_test (flags % 2 == 1) refl
  where
    by_test : (test : Bool) → (flags % 2 == 1) ≡ test → (if test then first ∷ set_words words (flags / 2) else set_words words (flags / 2)) ≡ set_words words (flags / 2)
    by_test true told = absurd (even (eqb-true (flags % 2) 1 told))
    by_test false told = refl

pub with_first : (begun : Bool) (first : Word) (words : List Word) (word rest : List ℕ) (flags : ℕ) → word ≡ word_behind begun first ++ rest → AreSet true words rest flags → AreSet begun (first ∷ words) word (2 * flags + 1)
with_first begun first words word rest flags is set =
    let half : (2 * flags + 1) / 2 ≡ flags = omega arith in
    record {
      fits = let fits : flags < 2 ^ length words = set.fits in omega (arith, fits, double first words);
      some = λ _. omega arith;
      spelled = is ∙ ap (λ rest. word_behind begun first ++ rest) (set.spelled ∙ ap (λ one. words_behind true (set_words words one)) (sym half)) ∙ sym (words_odd begun first words (2 * flags + 1) (omega arith));
    }

pub without_first : (begun : Bool) (first : Word) (words : List Word) (word : List ℕ) (flags : ℕ) → AreSet begun words word flags → AreSet begun (first ∷ words) word (2 * flags)
without_first begun first words word flags set =
    let half : (2 * flags) / 2 ≡ flags = omega arith in
    record {
      fits = let fits : flags < 2 ^ length words = set.fits in omega (arith, fits, double first words);
      some = λ is. let some : 0 < flags = set.some is in omega (arith, some);
      spelled = set.spelled ∙ ap (λ one. words_behind begun (set_words words one)) (sym half) ∙ ap (words_behind begun) (sym (words_even words first (2 * flags) (omega arith)));
    }

-- the flags of a word have the first, or not
pub either : (begun : Bool) (first : Word) (words : List Word) (word : List ℕ) (flags : ℕ) → AreSet begun (first ∷ words) word flags
    → ((rest : List ℕ) × (word ≡ word_behind begun first ++ rest) × AreSet true words rest (flags / 2)) ⊎ AreSet begun words word (flags / 2)
either begun first words word flags set = by_test (flags % 2 == 1) refl
  where
    few : flags / 2 < 2 ^ length words
    few = let fits : flags < 2 ^ length (first ∷ words) = set.fits in omega (arith, fits, double first words)

    by_test : (test : Bool) → (flags % 2 == 1) ≡ test → ((rest : List ℕ) × (word ≡ word_behind begun first ++ rest) × AreSet true words rest (flags / 2)) ⊎ AreSet begun words word (flags / 2)
    by_test true told =
        inl (words_behind true (set_words words (flags / 2)), set.spelled ∙ words_odd begun first words flags (eqb-true (flags % 2) 1 told), record { fits = few; some = λ is. absurd (cc is); spelled = refl })
    by_test false told =
        let even : flags % 2 ≢ 1 = eqb-false (flags % 2) 1 told in
        inr (record {
          fits = few;
          some = λ is. let some : 0 < flags = set.some is in omega (arith, some, even);
          spelled = set.spelled ∙ ap (words_behind begun) (words_even words first flags even);
        })

-- flags that begin a word are those of the word
pub are_flags : (words : List Word) (word : List ℕ) (flags : ℕ) → AreSet false words word flags → word ≡ flags_word words flags
are_flags words word flags set = set.spelled ∙ sym (some_words words flags (set.some refl) set.fits)

pub flags_set : (words : List Word) (word : List ℕ) (flags : ℕ) → flags < 2 ^ length words → word ≢ codes "0" → word ≡ flags_word words flags → AreSet false words word flags
flags_set words word flags fits other is =
    let some : 0 < flags = by_flags flags refl in
    record { fits = fits; some = λ _. some; spelled = is ∙ some_words words flags some fits }
  where
    by_flags : (each : ℕ) → flags ≡ each → 0 < flags
    by_flags each are = omega (arith, λ (none : flags ≡ 0). other (is ∙ zero_word words flags none))

-- so few words have so few flags
pub few_flags : (words : List Word) (flags : ℕ) → length words ≤ 15 → flags < 2 ^ length words → flags < 2 ^ 15
few_flags words flags few fits =
    let most : 2 ^ length words ≤ 2 ^ 15 = pow-le-pow_right (omega arith) few in omega (arith, fits, most)

-- the words of the table behind the first
abbrev pub others : List (Bor (List ℕ)) → List Word
others words = map (λ word. word.now) (take (length words - 1) (drop 1 words))

words_whole : (words : List (Bor (List ℕ))) (other : Bor (List ℕ)) → 1 ≤ length words → map (λ word. word.now) words ≡ (get_or words 0 other).now ∷ others words
words_whole [] other some = absurd (omega (arith, some))
words_whole (word ∷ words) other some = ap (λ rest. word.now ∷ map (λ word. word.now) rest) (sym (take_all _ words (omega arith)))

pub few_others : (words : List (Bor (List ℕ))) (other : Bor (List ℕ)) (begun : Bool) (word : List ℕ) (flags : ℕ) → 1 ≤ length words → length words ≤ 16 → AreSet begun (others words) word flags → flags < 2 ^ 15
few_others words other begun word flags some few set =
    let counted : length (map (λ word. word.now) words) ≡ length words = length-map words _ in
    let whole : length (map (λ word. word.now) words) ≡ length (others words) + 1 = ap length (words_whole words other some) ∙ omega arith in
    few_flags (others words) flags (omega (arith, counted, whole, few)) set.fits

pub set_first : (begun : Bool) (words : List (Bor (List ℕ))) (other : Bor (List ℕ)) (word rest : List ℕ) (flags : ℕ) → 1 ≤ length words
    → word ≡ word_behind begun (get_or words 0 other).now ++ rest → AreSet true (others words) rest flags → AreSet begun (map (λ word. word.now) words) word (2 * flags + 1)
set_first begun words other word rest flags some is set =
    subst (λ all. AreSet begun all word (2 * flags + 1)) (sym (words_whole words other some)) (with_first begun (get_or words 0 other).now (others words) word rest flags is set)

-- where no flags of a word have the first
pub not_first : (begun : Bool) (words : List (Bor (List ℕ))) (other : Bor (List ℕ)) (word : List ℕ) (unset twice : Option ℕ) → 1 ≤ length words
    → twice ≡ option_map (λ number. 2 * number) unset
    → MatchOption unset ((flags : ℕ) → AreSet begun (others words) word flags → ⊥) (λ flags. AreSet begun (others words) word flags)
    → ((rest : List ℕ) (flags : ℕ) → word ≡ word_behind begun (get_or words 0 other).now ++ rest → AreSet true (others words) rest flags → ⊥)
    → MatchOption twice ((flags : ℕ) → AreSet begun (map (λ word. word.now) words) word flags → ⊥) (λ flags. AreSet begun (map (λ word. word.now) words) word flags)
not_first begun words other word unset twice some are told none =
    subst Is (sym are) (by_case unset told)
  where
    Is : Option ℕ → Type 0
    Is found = MatchOption found ((flags : ℕ) → AreSet begun (map (λ word. word.now) words) word flags → ⊥) (λ flags. AreSet begun (map (λ word. word.now) words) word flags)

    whole : map (λ word. word.now) words ≡ (get_or words 0 other).now ∷ others words
    whole = words_whole words other some

    none_set : ((flags : ℕ) → AreSet begun (others words) word flags → ⊥) → (flags : ℕ) → AreSet begun (map (λ word. word.now) words) word flags → ⊥
    none_set not flags set =
        elim (either begun (get_or words 0 other).now (others words) word flags (subst (λ all. AreSet begun all word flags) whole set))
        [ inl is ↦ none is.0 (flags / 2) is.1 is.2 | inr is ↦ not (flags / 2) is ]

    by_case : (unset : Option ℕ) → MatchOption unset ((flags : ℕ) → AreSet begun (others words) word flags → ⊥) (λ flags. AreSet begun (others words) word flags)
        → MatchOption (option_map (λ number. 2 * number) unset) ((flags : ℕ) → AreSet begun (map (λ word. word.now) words) word flags → ⊥) (λ flags. AreSet begun (map (λ word. word.now) words) word flags)
    by_case None told = none_set told
    by_case (Some flags) told =
        subst (λ all. AreSet begun all word (2 * flags)) (sym whole) (without_first begun (get_or words 0 other).now (others words) word flags told)

-- a word has one rest behind another
pub one_rest : (front word one rest : List ℕ) → word ≡ front ++ one → word ≡ front ++ rest → rest ≡ one
one_rest front word one rest is are = append_cancel_left front rest one (sym are ∙ is)

pub read_off : (words : List Word) (word : List ℕ) (found : Option ℕ) → length words ≡ 16 → word ≢ codes "0"
    → MatchOption found ((flags : ℕ) → AreSet false words word flags → ⊥) (λ flags. AreSet false words word flags)
    → MatchOption found ((flags : ℕ) → flags < 2 ^ 16 → word ≢ flags_word words flags) (λ flags. word ≡ flags_word words flags)
read_off words word None counted other none =
    λ flags few is. none flags (flags_set words word flags (subst (λ count. flags < 2 ^ count) (sym counted) few) other is)
read_off words word (Some flags) counted other set = are_flags words word flags set
