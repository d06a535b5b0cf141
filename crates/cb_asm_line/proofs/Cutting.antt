-- Texts cut at the first of a unit.
use Rattle.std.proofs.Common.{◌≡◌, ◌∙◌, ap, sym, refl, subst, add-one, length-drop, ◌-◌, ◌≤◌, arith, ℕ, zero, suc, ◌+◌, ◌<◌, Bool, true, false, List, [], ◌∷◌, ◌++◌, length, take, drop, get_or, ◌==◌, if◌then◌else◌, nat_lt, Option, Some, None, MatchOption, Bor}
use Rattle.std.proofs.lemmas.Bool.{eqb-false, eqb-true}
use Rattle.std.proofs.lemmas.Bool.{ltb-false}
use Rattle.std.proofs.lemmas.List.{take_all}
use Rattle.std.proofs.lemmas.List.Quantifiers.{position-Some}
use Rattle.std.proofs.lemmas.List.Sums.{fails_before_first}
use Rattle.std.specs.List.{position, position_or_len}
use Rattle.cb_asm_line.specs.Inner.{Lacks}
use Rattle.cb_asm_line.specs.Lines.{lines_of, newline, put_first, space, words_of}

pub lacks_before : (unit : ℕ) (text : List ℕ) (place : ℕ) → ((each : ℕ) → each < place → (get_or text each 0 == unit) ≡ false) → Lacks unit (take place text)
lacks_before unit [] zero none = tt
lacks_before unit [] (suc place) none = tt
lacks_before unit (first ∷ text) zero none = tt
lacks_before unit (first ∷ text) (suc place) none =
    (eqb-false first unit (none zero (omega arith)), lacks_before unit text place (λ each below. none (suc each) (omega (arith, below))))

pub cut_at : (unit : ℕ) (text : List ℕ) (place : ℕ) → place < length text → (get_or text place 0 == unit) ≡ true → text ≡ take place text ++ unit ∷ drop (suc place) text
cut_at unit [] place within is = absurd (omega (arith, within))
cut_at unit (first ∷ text) zero within is = ap (λ each. each ∷ text) (eqb-true first unit is)
cut_at unit (first ∷ text) (suc place) within is = ap (λ rest. first ∷ rest) (cut_at unit text place (omega (arith, within)) is)

-- by the place of the first of the unit
pub lacks_all : (unit : ℕ) (text : List ℕ) → position (λ each. each == unit) text ≡ None → Lacks unit text
lacks_all unit text none = by_test (nat_lt (position_or_len (λ each. each == unit) text) (length text)) refl
  where
    by_test : (test : Bool) → nat_lt (position_or_len (λ each. each == unit) text) (length text) ≡ test → Lacks unit text
    by_test true told =
        let some : position (λ each. each == unit) text ≡ Some (position_or_len (λ each. each == unit) text) = ap (λ test. if test then Some (position_or_len (λ each. each == unit) text) else None) told in
        absurd (cc (some, none))
    by_test false told =
        let past : length text ≤ position_or_len (λ each. each == unit) text = ltb-false _ _ told in
        subst (Lacks unit) (take_all (length text) text (omega arith)) (lacks_before unit text (length text) (λ each below. fails_before_first (λ each. each == unit) text each 0 (omega (arith, past, below))))

pub cut_there : (unit : ℕ) (text : List ℕ) (place : ℕ) → position (λ each. each == unit) text ≡ Some place → Lacks unit (take place text) × (text ≡ take place text ++ unit ∷ take (length text - (place + 1)) (drop (place + 1) text))
cut_there unit text place is =
    let found = position-Some (λ each. each == unit) text place 0 is in
    let left : length (drop (place + 1) text) ≤ length text - (place + 1) = omega (arith, length-drop (place + 1) text) in
    (lacks_before unit text place found.2, cut_at unit text place found.0 found.1 ∙ ap (λ rest. take place text ++ unit ∷ rest) (ap (λ each. drop each text) (sym (add-one place)) ∙ sym (take_all _ (drop (place + 1) text) left)))

-- a line at the front of a text, and a word at the front of a line
pub first_line : (line rest : List ℕ) → Lacks newline line → lines_of (line ++ newline ∷ rest) ≡ (line ++ newline ∷ []) ∷ lines_of rest
first_line [] rest lacks = refl
first_line (unit ∷ line) rest lacks = by_test (first_line line rest lacks.1) (unit == newline) refl
  where
    by_test : lines_of (line ++ newline ∷ rest) ≡ (line ++ newline ∷ []) ∷ lines_of rest → (test : Bool) → (unit == newline) ≡ test → (if test then (newline ∷ []) ∷ lines_of (line ++ newline ∷ rest) else put_first unit (lines_of (line ++ newline ∷ rest))) ≡ (unit ∷ line ++ newline ∷ []) ∷ lines_of rest
    by_test next true told = absurd (lacks.0 (eqb-true unit newline told))
    by_test next false told = ap (put_first unit) next

pub first_word : (word rest : List ℕ) → Lacks space word → words_of (word ++ space ∷ rest) ≡ word ∷ words_of rest
first_word [] rest lacks = refl
first_word (unit ∷ word) rest lacks = by_test (first_word word rest lacks.1) (unit == space) refl
  where
    by_test : words_of (word ++ space ∷ rest) ≡ word ∷ words_of rest → (test : Bool) → (unit == space) ≡ test → (if test then [] ∷ words_of (word ++ space ∷ rest) else put_first unit (words_of (word ++ space ∷ rest))) ≡ (unit ∷ word) ∷ words_of rest
    by_test next true told = absurd (lacks.0 (eqb-true unit space told))
    by_test next false told = ap (put_first unit) next

pub one_word : (word : List ℕ) → Lacks space word → words_of word ≡ word ∷ []
one_word [] lacks = refl
one_word (unit ∷ word) lacks = by_test (one_word word lacks.1) (unit == space) refl
  where
    by_test : words_of word ≡ word ∷ [] → (test : Bool) → (unit == space) ≡ test → (if test then [] ∷ words_of word else put_first unit (words_of word)) ≡ (unit ∷ word) ∷ []
    by_test next true told = absurd (lacks.0 (eqb-true unit space told))
    by_test next false told = ap (put_first unit) next

-- what is told of a cut tells the first line, and the first word
pub line_cut : (text : List ℕ) (result : Option (Bor (List ℕ) × Bor (List ℕ)))
    → MatchOption result (Lacks newline text) (λ read. Lacks newline read.0.now × (text ≡ read.0.now ++ newline ∷ read.1.now))
    → MatchOption result (Lacks newline text) (λ read. lines_of text ≡ (read.0.now ++ newline ∷ []) ∷ lines_of read.1.now)
line_cut text None lacks = lacks
line_cut text (Some read) told = ap lines_of told.1 ∙ first_line read.0.now read.1.now told.0

pub word_cut : (line : List ℕ) (result : Option (Bor (List ℕ) × Bor (List ℕ)))
    → MatchOption result (Lacks space line) (λ read. Lacks space read.0.now × (line ≡ read.0.now ++ space ∷ read.1.now))
    → MatchOption result (words_of line ≡ line ∷ []) (λ read. words_of line ≡ read.0.now ∷ words_of read.1.now)
word_cut line None lacks = one_word line lacks
word_cut line (Some read) told = ap words_of told.1 ∙ first_word read.0.now read.1.now told.0
