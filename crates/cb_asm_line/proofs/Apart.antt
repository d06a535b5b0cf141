-- Texts between units, with which they are joined.
use Rattle.std.proofs.Common.{◌≡◌, ◌≢◌, ◌∙◌, ap, sym, refl, arith, length, length-append, ℕ, ◌+◌, ◌<◌, List, [], ◌∷◌, ◌++◌}
use Rattle.std.specs.List.{AllByRecursion, join_with_byte}
use Rattle.cb_asm_line.specs.Inner.{Lacks}
use Rattle.cb_asm_line.specs.Lines.{Line, Word}
use Rattle.cb_asm_line.specs.SaidFrames.{AreApart}

-- so many words of a text are read, and this is left
pub record IsParted (unit : ℕ) (text rest : List ℕ) (words : Line) : Type 0 where
  pub whole : join_with_byte unit (words ++ rest ∷ []) ≡ text
  pub lack : AllByRecursion (Lacks unit) words

pub begun : (unit : ℕ) (text : List ℕ) → IsParted unit text text []
begun unit text = record { whole = refl; lack = tt }

joined_apart : (unit : ℕ) (words : Line) (word behind : List ℕ) → join_with_byte unit ((words ++ word ∷ []) ++ behind ∷ []) ≡ join_with_byte unit (words ++ (word ++ unit ∷ behind) ∷ [])
joined_apart unit [] word behind = refl
joined_apart unit (first ∷ []) word behind = refl
joined_apart unit (first ∷ next ∷ words) word behind = ap (λ rest. first ++ unit ∷ rest) (joined_apart unit (next ∷ words) word behind)

all_more : (unit : ℕ) (words : Line) (word : Word) → AllByRecursion (Lacks unit) words → Lacks unit word → AllByRecursion (Lacks unit) (words ++ word ∷ [])
all_more unit [] word all lacks = (lacks, tt)
all_more unit (first ∷ words) word all lacks = (all.0, all_more unit words word all.1 lacks)

pub next : (unit : ℕ) (text rest behind : List ℕ) (words : Line) (word : Word) → Lacks unit word → rest ≡ word ++ unit ∷ behind → IsParted unit text rest words → IsParted unit text behind (words ++ word ∷ [])
next unit text rest behind words word lacks is parted =
    record { whole = joined_apart unit words word behind ∙ ap (λ left. join_with_byte unit (words ++ left ∷ [])) (sym is) ∙ parted.whole; lack = all_more unit words word parted.lack lacks }

pub shorter : (unit : ℕ) (rest word behind : List ℕ) → rest ≡ word ++ unit ∷ behind → length behind < length rest
shorter unit rest word behind is = let counted : length rest ≡ length word + length (unit ∷ behind) = ap length is ∙ length-append word (unit ∷ behind) in omega (arith, counted)

not_none : (words : Line) (word : Word) → words ++ word ∷ [] ≢ []
not_none [] word is = absurd (cc is)
not_none (first ∷ words) word is = absurd (cc is)

pub ended : (unit : ℕ) (text rest : List ℕ) (words : Line) → Lacks unit rest → IsParted unit text rest words → AreApart unit text (words ++ rest ∷ [])
ended unit text rest words lacks parted = record { some = not_none words rest; whole = parted.whole; lack = all_more unit words rest parted.lack lacks }

-- a text has one list of words between the units
cut_one : (unit : ℕ) (one other rest behind : List ℕ) → Lacks unit one → Lacks unit other → one ++ unit ∷ rest ≡ other ++ unit ∷ behind → (one ≡ other) × (rest ≡ behind)
cut_one unit [] [] rest behind lacks lack is = (refl, cc is)
cut_one unit [] (first ∷ other) rest behind lacks lack is = let same : unit ≡ first = cc is in absurd (lack.0 (sym same))
cut_one unit (first ∷ one) [] rest behind lacks lack is = let same : first ≡ unit = cc is in absurd (lacks.0 same)
cut_one unit (first ∷ one) (next ∷ other) rest behind lacks lack is =
    let same = cut_one unit one other rest behind lacks.1 lack.1 (cc is) in
    (let head : first ≡ next = cc is in ap (λ each. each ∷ one) head ∙ ap (λ rest. next ∷ rest) same.0, same.1)

not_lacking : (unit : ℕ) (word rest text : List ℕ) → Lacks unit text → text ≢ word ++ unit ∷ rest
not_lacking unit [] rest [] lacks is = absurd (cc is)
not_lacking unit [] rest (first ∷ text) lacks is = lacks.0 (cc is)
not_lacking unit (letter ∷ word) rest [] lacks is = absurd (cc is)
not_lacking unit (letter ∷ word) rest (first ∷ text) lacks is = not_lacking unit word rest text lacks.1 (cc is)

pub one_parting : (unit : ℕ) (one other : Line) → one ≢ [] → other ≢ [] → AllByRecursion (Lacks unit) one → AllByRecursion (Lacks unit) other → join_with_byte unit one ≡ join_with_byte unit other → one ≡ other
one_parting unit [] other some any lack lacks is = absurd (some refl)
one_parting unit (word ∷ one) [] some any lack lacks is = absurd (any refl)
one_parting unit (word ∷ []) (first ∷ []) some any lack lacks is = ap (λ each. each ∷ []) is
one_parting unit (word ∷ []) (first ∷ second ∷ other) some any lack lacks is = absurd (not_lacking unit first (join_with_byte unit (second ∷ other)) word lack.0 is)
one_parting unit (word ∷ next ∷ one) (first ∷ []) some any lack lacks is = absurd (not_lacking unit word (join_with_byte unit (next ∷ one)) first lacks.0 (sym is))
one_parting unit (word ∷ next ∷ one) (first ∷ second ∷ other) some any lack lacks is =
    let same = cut_one unit word first (join_with_byte unit (next ∷ one)) (join_with_byte unit (second ∷ other)) lack.0 lacks.0 is in
    ap (λ each. each ∷ next ∷ one) same.0 ∙ ap (λ rest. first ∷ rest) (one_parting unit (next ∷ one) (second ∷ other) (λ none. absurd (cc none)) (λ none. absurd (cc none)) lack.1 lacks.1 same.1)
