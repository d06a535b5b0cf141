-- Units at the front of a word.
use Rattle.std.proofs.Common.{◌≡◌, ◌≢◌, ◌⊎◌, ◌∙◌, ap, sym, refl, subst, inl, inr, arith, ℕ, ◌<◌, ◌^◌, Bool, true, false, List, Bor, [], ◌∷◌, ◌++◌, append_assoc, append-nil, length, drop, Option, Some, None, MatchOption}
use Rattle.cb_asm_line.specs.Inner.{IsSpelled, IsQuoted, Plain, Marked, Escaped, BeginsWithUnit, SpellUnits, stands_alone}
use Rattle.cb_asm_line.specs.Quoting.{escape, is_plain, backslash, quote, quoted_unit, name_unit, name_word}
use Rattle.cb_text.specs.Text.{AreUnits}
use Rattle.std.specs.List.{flat_map}
use Rattle.cb_asm_line.proofs.Quoted.{not_marked, quoted_same, unit_is_quoted}
use Rattle.cb_asm_line.proofs.Spelled.{first_is_spelled, not_plain, spelled_same, unit_is_spelled}

-- behind a backslash, where no quote or backslash is marked by it
pub with_backslash : (in_text : Bool) (behind : List ℕ) (result : Option (ℕ × Bor (List ℕ)))
    → ((mark : ℕ) (rest : List ℕ) → in_text ≡ true → (mark ≡ quote) ⊎ (mark ≡ backslash) → behind ≢ mark ∷ rest)
    → MatchOption result ((unit : ℕ) (rest : List ℕ) → unit < 2 ^ 16 → behind ≢ drop 1 (escape unit) ++ rest) (λ read. (read.0 < 2 ^ 16) × (behind ≡ drop 1 (escape read.0) ++ read.1.now))
    → MatchOption result ((unit : ℕ) (rest : List ℕ) → BeginsWithUnit in_text (backslash ∷ behind) unit rest → ⊥) (λ read. BeginsWithUnit in_text (backslash ∷ behind) read.0 read.1.now)
with_backslash true behind None unmarked none = none_begins
  where
    none_begins : (unit : ℕ) (rest : List ℕ) → BeginsWithUnit true (backslash ∷ behind) unit rest → ⊥
    none_begins unit rest begins = by_case begins.spelled
      where
        by_case : IsQuoted unit begins.first → ⊥
        by_case (Plain stands is) =
            let whole : backslash ∷ behind ≡ unit ∷ rest = begins.whole ∙ ap (λ first. first ++ rest) is in
            (not_marked unit stands).1 (sym (cc whole))
        by_case (Marked one is) =
            let whole : backslash ∷ behind ≡ backslash ∷ unit ∷ rest = begins.whole ∙ ap (λ first. first ++ rest) is in
            unmarked unit rest refl one (ap (drop 1) whole)
        by_case (Escaped is) =
            let whole : backslash ∷ behind ≡ escape unit ++ rest = begins.whole ∙ ap (λ first. first ++ rest) is in
            none unit rest begins.fits (ap (drop 1) whole)
with_backslash false behind None unmarked none = none_begins
  where
    none_begins : (unit : ℕ) (rest : List ℕ) → BeginsWithUnit false (backslash ∷ behind) unit rest → ⊥
    none_begins unit rest begins = by_case begins.spelled
      where
        by_case : IsSpelled unit begins.first → ⊥
        by_case (inl plain) =
            let whole : backslash ∷ behind ≡ unit ∷ rest = begins.whole ∙ ap (λ first. first ++ rest) plain.1 in
            let same : unit ≡ backslash = sym (cc whole) in
            not_plain (subst (λ one. is_plain one ≡ true) same plain.0)
        by_case (inr escaped) =
            let whole : backslash ∷ behind ≡ escape unit ++ rest = begins.whole ∙ ap (λ first. first ++ rest) escaped in
            none unit rest begins.fits (ap (drop 1) whole)
with_backslash true behind (Some read) unmarked (fits, is) =
    record { first = escape read.0; fits = fits; spelled = Escaped refl; whole = ap (λ rest. backslash ∷ rest) is }
with_backslash false behind (Some read) unmarked (fits, is) =
    record { first = escape read.0; fits = fits; spelled = inr refl; whole = ap (λ rest. backslash ∷ rest) is }

-- a quote or a backslash that is marked
pub marked_begins : (word : List ℕ) (unit : ℕ) (rest : List ℕ) → unit < 2 ^ 16 → (unit ≡ quote) ⊎ (unit ≡ backslash) → word ≡ backslash ∷ unit ∷ rest → BeginsWithUnit true word unit rest
marked_begins word unit rest fits one is = record { first = backslash ∷ unit ∷ []; fits = fits; spelled = Marked one refl; whole = is }

-- a unit by itself
pub alone_begins : (in_text : Bool) (word : List ℕ) (unit : ℕ) (rest : List ℕ) → unit < 2 ^ 16 → stands_alone in_text unit ≡ true → word ≡ unit ∷ rest → BeginsWithUnit in_text word unit rest
alone_begins true word unit rest fits stands is = record { first = unit ∷ []; fits = fits; spelled = Plain stands refl; whole = is }
alone_begins false word unit rest fits stands is = record { first = unit ∷ []; fits = fits; spelled = inl (stands, refl); whole = is }

-- the unit at the front of a word, and what is behind it, is one
pub begins_same : (in_text : Bool) (word : List ℕ) (one other : ℕ) (rest behind : List ℕ) → BeginsWithUnit in_text word one rest → BeginsWithUnit in_text word other behind → (one ≡ other) × (rest ≡ behind)
begins_same false word one other rest behind begins starts =
    spelled_same one other begins.first starts.first rest behind begins.fits starts.fits begins.spelled starts.spelled (sym begins.whole ∙ starts.whole)
begins_same true word one other rest behind begins starts =
    quoted_same one other begins.first starts.first rest behind begins.fits starts.fits begins.spelled starts.spelled (sym begins.whole ∙ starts.whole)

pub shorter : (in_text : Bool) (word : List ℕ) (unit : ℕ) (rest : List ℕ) → BeginsWithUnit in_text word unit rest → length rest < length word
shorter true word unit rest begins = by_case begins.spelled
  where
    by_case : IsQuoted unit begins.first → length rest < length word
    by_case (Plain stands is) = let whole : length word ≡ length (unit ∷ rest) = ap length (begins.whole ∙ ap (λ first. first ++ rest) is) in omega (arith, whole)
    by_case (Marked one is) = let whole : length word ≡ length (backslash ∷ unit ∷ rest) = ap length (begins.whole ∙ ap (λ first. first ++ rest) is) in omega (arith, whole)
    by_case (Escaped is) = let whole : length word ≡ length (escape unit ++ rest) = ap length (begins.whole ∙ ap (λ first. first ++ rest) is) in omega (arith, whole)
shorter false word unit rest begins = by_case begins.spelled
  where
    by_case : IsSpelled unit begins.first → length rest < length word
    by_case (inl plain) = let whole : length word ≡ length (unit ∷ rest) = ap length (begins.whole ∙ ap (λ first. first ++ rest) plain.1) in omega (arith, whole)
    by_case (inr escaped) = let whole : length word ≡ length (escape unit ++ rest) = ap length (begins.whole ∙ ap (λ first. first ++ rest) escaped) in omega (arith, whole)

-- so many units of a word are read, and this is left: what is spelled in it, behind them, is what is spelled in the word
pub record IsRead (in_text : Bool) (word rest units : List ℕ) : Type 0 where
  pub back : (more : List ℕ) → SpellUnits in_text rest more → SpellUnits in_text word (units ++ more)
  pub on : (all : List ℕ) → SpellUnits in_text word all → (more : List ℕ) × (all ≡ units ++ more) × SpellUnits in_text rest more

pub begun : (in_text : Bool) (word : List ℕ) → IsRead in_text word word []
begun in_text word = record { back = λ more spelled. spelled; on = λ all spelled. (all, refl, spelled) }

pub next : (in_text : Bool) (word rest behind units : List ℕ) (unit : ℕ) → BeginsWithUnit in_text rest unit behind → IsRead in_text word rest units → IsRead in_text word behind (units ++ unit ∷ [])
next in_text word rest behind units unit begins read = record { back = back; on = on }
  where
    back : (more : List ℕ) → SpellUnits in_text behind more → SpellUnits in_text word ((units ++ unit ∷ []) ++ more)
    back more spelled = subst (SpellUnits in_text word) (sym (append_assoc units (unit ∷ []) more)) (read.back (unit ∷ more) (behind, begins, spelled))

    by_more : (all more : List ℕ) → all ≡ units ++ more → SpellUnits in_text rest more → (left : List ℕ) × (all ≡ (units ++ unit ∷ []) ++ left) × SpellUnits in_text behind left
    by_more all [] is spelled = let less = shorter in_text rest unit behind begins in let none : length rest ≡ 0 = ap length spelled in absurd (omega (arith, less, none))
    by_more all (other ∷ more) is spelled =
        let same = begins_same in_text rest other unit spelled.0 behind spelled.1 begins in
        (more, is ∙ ap (λ first. units ++ first ∷ more) same.0 ∙ sym (append_assoc units (unit ∷ []) more), subst (λ left. SpellUnits in_text left more) same.1 spelled.2)

    on : (all : List ℕ) → SpellUnits in_text word all → (left : List ℕ) × (all ≡ (units ++ unit ∷ []) ++ left) × SpellUnits in_text behind left
    on all spelled = let told = read.on all spelled in by_more all told.0 told.1 told.2

pub ended : (in_text : Bool) (word units : List ℕ) → IsRead in_text word [] units → SpellUnits in_text word units
ended in_text word units read = subst (SpellUnits in_text word) (append-nil units) (read.back [] refl)

pub stopped : (in_text : Bool) (word rest units all : List ℕ) → rest ≢ [] → ((unit : ℕ) (behind : List ℕ) → BeginsWithUnit in_text rest unit behind → ⊥) → IsRead in_text word rest units → SpellUnits in_text word all → ⊥
stopped in_text word rest units all some none read spelled = let told = read.on all spelled in by_more told.0 told.2
  where
    by_more : (more : List ℕ) → SpellUnits in_text rest more → ⊥
    by_more [] is = some is
    by_more (unit ∷ more) is = none unit is.0 is.1

-- a word has one list of units
pub units_one : (in_text : Bool) (word : List ℕ) (one other : List ℕ) → SpellUnits in_text word one → SpellUnits in_text word other → one ≡ other
units_one in_text word [] [] is are = refl
units_one in_text word [] (unit ∷ other) is are = let less = shorter in_text word unit are.0 are.1 in let none : length word ≡ 0 = ap length is in absurd (omega (arith, less, none))
units_one in_text word (unit ∷ one) [] is are = let less = shorter in_text word unit is.0 is.1 in let none : length word ≡ 0 = ap length are in absurd (omega (arith, less, none))
units_one in_text word (unit ∷ one) (first ∷ other) is are =
    let same = begins_same in_text word unit first is.0 are.0 is.1 are.1 in
    ap (λ each. each ∷ one) same.0 ∙ ap (λ rest. first ∷ rest) (units_one in_text are.0 one other (subst (λ left. SpellUnits in_text left one) same.1 is.2) are.2)

pub are_units : (in_text : Bool) (word units : List ℕ) → SpellUnits in_text word units → AreUnits units
are_units in_text word [] is = tt
are_units in_text word (unit ∷ units) is = (is.1.fits, are_units in_text is.0 units is.2)

pub rest_spelled : (units : List ℕ) → AreUnits units → SpellUnits false (flat_map name_unit units) units
rest_spelled [] fits = refl
rest_spelled (unit ∷ units) fits =
    (flat_map name_unit units, record { first = name_unit unit; fits = fits.0; spelled = unit_is_spelled unit; whole = refl }, rest_spelled units fits.1)

pub name_spelled : (name : List ℕ) → AreUnits name → SpellUnits false (name_word name) name
name_spelled [] fits = refl
name_spelled (unit ∷ units) fits =
    (flat_map name_unit units, record { first = _; fits = fits.0; spelled = first_is_spelled unit units; whole = refl }, rest_spelled units fits.1)

-- a text between its quotes
pub text_spelled : (text : List ℕ) → AreUnits text → SpellUnits true (flat_map quoted_unit text) text
text_spelled [] fits = refl
text_spelled (unit ∷ text) fits =
    (flat_map quoted_unit text, record { first = quoted_unit unit; fits = fits.0; spelled = unit_is_quoted unit; whole = refl }, text_spelled text fits.1)
