-- Two names, and two texts in quotes, differ where their spellings do.
use Rattle.std.proofs.Common.{◌≡◌, ◌⊎◌, ◌∙◌, ap, sym, refl, subst, inl, inr, arith, ℕ, ◌/◌, ◌%◌, ◌<◌, ◌^◌, Bool, true, false, List, [], ◌∷◌, ◌++◌, if◌then◌else◌}
use Rattle.std.specs.List.{flat_map}
use Rattle.std.specs.Fmt.{digit_glyph}
use Rattle.cb_text.specs.Text.{AreUnits}
use Rattle.cb_asm_line.specs.Inner.{IsSpelled}
use Rattle.cb_asm_line.specs.Quoting.{escape, is_plain, is_reserved, name_unit, name_word, backslash}

-- digits of one shape are one
same_digit : (one other : ℕ) → one < 16 → other < 16 → digit_glyph true one ≡ digit_glyph true other → one ≡ other
same_digit one other small little is = grind (arith, is)

same_unit : (one other : ℕ) → one < 2 ^ 16 → other < 2 ^ 16 → one / 0x1000 ≡ other / 0x1000 → one / 0x100 % 0x10 ≡ other / 0x100 % 0x10 → one / 0x10 % 0x10 ≡ other / 0x10 % 0x10 → one % 0x10 ≡ other % 0x10 → one ≡ other
same_unit one other fits suits a b c d = omega arith

pub escaped_same : (one other : ℕ) (rest behind : List ℕ) → one < 2 ^ 16 → other < 2 ^ 16 → escape one ++ rest ≡ escape other ++ behind → (one ≡ other) × (rest ≡ behind)
escaped_same one other rest behind fits suits is =
    let a : digit_glyph true (one / 0x1000) ≡ digit_glyph true (other / 0x1000) = cc is in
    let b : digit_glyph true (one / 0x100 % 0x10) ≡ digit_glyph true (other / 0x100 % 0x10) = cc is in
    let c : digit_glyph true (one / 0x10 % 0x10) ≡ digit_glyph true (other / 0x10 % 0x10) = cc is in
    let d : digit_glyph true (one % 0x10) ≡ digit_glyph true (other % 0x10) = cc is in
    (same_unit one other fits suits (same_digit _ _ (omega arith) (omega arith) a) (same_digit _ _ (omega arith) (omega arith) b) (same_digit _ _ (omega arith) (omega arith) c) (same_digit _ _ (omega arith) (omega arith) d), cc is)

pub not_plain : is_plain backslash ≡ true → ⊥
not_plain is = grind (arith, is)

pub spelled_same : (one other : ℕ) (spelled written rest behind : List ℕ) → one < 2 ^ 16 → other < 2 ^ 16 → IsSpelled one spelled → IsSpelled other written
    → spelled ++ rest ≡ written ++ behind → (one ≡ other) × (rest ≡ behind)
spelled_same one other spelled written rest behind fits suits (inl plain) (inl other_plain) is =
    let whole : one ∷ rest ≡ other ∷ behind = ap (λ text. text ++ rest) (sym plain.1) ∙ is ∙ ap (λ text. text ++ behind) other_plain.1 in
    (cc whole, cc whole)
spelled_same one other spelled written rest behind fits suits (inl plain) (inr escaped) is =
    let whole : one ∷ rest ≡ escape other ++ behind = ap (λ text. text ++ rest) (sym plain.1) ∙ is ∙ ap (λ text. text ++ behind) escaped in
    let first : one ≡ backslash = cc whole in
    absurd (not_plain (subst (λ unit. is_plain unit ≡ true) first plain.0))
spelled_same one other spelled written rest behind fits suits (inr escaped) (inl plain) is =
    let whole : escape one ++ rest ≡ other ∷ behind = ap (λ text. text ++ rest) (sym escaped) ∙ is ∙ ap (λ text. text ++ behind) plain.1 in
    let first : other ≡ backslash = cc whole in
    absurd (not_plain (subst (λ unit. is_plain unit ≡ true) first plain.0))
spelled_same one other spelled written rest behind fits suits (inr escaped) (inr other_escaped) is =
    escaped_same one other rest behind fits suits (ap (λ text. text ++ rest) (sym escaped) ∙ is ∙ ap (λ text. text ++ behind) other_escaped)

not_empty : (unit : ℕ) (spelled rest : List ℕ) → IsSpelled unit spelled → spelled ++ rest ≡ [] → ⊥
not_empty unit spelled rest (inl plain) is = let whole : unit ∷ rest ≡ [] = ap (λ text. text ++ rest) (sym plain.1) ∙ is in absurd (cc whole)
not_empty unit spelled rest (inr escaped) is = let whole : escape unit ++ rest ≡ [] = ap (λ text. text ++ rest) (sym escaped) ∙ is in absurd (cc whole)

pub unit_is_spelled : (unit : ℕ) → IsSpelled unit (name_unit unit)
unit_is_spelled unit = by_test (is_plain unit) refl
  where
    by_test : (test : Bool) → is_plain unit ≡ test → ((is_plain unit ≡ true) × ((if test then unit ∷ [] else escape unit) ≡ unit ∷ [])) ⊎ ((if test then unit ∷ [] else escape unit) ≡ escape unit)
    by_test true told = inl (told, refl)
    by_test false told = inr refl

pub first_is_spelled : (unit : ℕ) (units : List ℕ) → IsSpelled unit (if is_reserved (unit ∷ units) then escape unit else name_unit unit)
first_is_spelled unit units = by_test (is_reserved (unit ∷ units)) (unit_is_spelled unit)
  where
    by_test : (test : Bool) → IsSpelled unit (name_unit unit) → IsSpelled unit (if test then escape unit else name_unit unit)
    by_test true spelled = inr refl
    by_test false spelled = spelled

units_same : (one other : List ℕ) → AreUnits one → AreUnits other → flat_map name_unit one ≡ flat_map name_unit other → one ≡ other
units_same [] [] fits suits is = refl
units_same [] (unit ∷ other) fits suits is = absurd (not_empty unit _ _ (unit_is_spelled unit) (sym is))
units_same (unit ∷ one) [] fits suits is = absurd (not_empty unit _ _ (unit_is_spelled unit) is)
units_same (unit ∷ one) (next ∷ other) fits suits is =
    let same = spelled_same unit next _ _ _ _ fits.0 suits.0 (unit_is_spelled unit) (unit_is_spelled next) is in
    ap (λ first. first ∷ one) same.0 ∙ ap (λ rest. next ∷ rest) (units_same one other fits.1 suits.1 same.1)

pub name_same : (one other : List ℕ) → AreUnits one → AreUnits other → name_word one ≡ name_word other → one ≡ other
name_same [] [] fits suits is = refl
name_same [] (unit ∷ other) fits suits is = absurd (not_empty unit _ _ (first_is_spelled unit other) (sym is))
name_same (unit ∷ one) [] fits suits is = absurd (not_empty unit _ _ (first_is_spelled unit one) is)
name_same (unit ∷ one) (next ∷ other) fits suits is =
    let same = spelled_same unit next _ _ _ _ fits.0 suits.0 (first_is_spelled unit one) (first_is_spelled next other) is in
    ap (λ first. first ∷ one) same.0 ∙ ap (λ rest. next ∷ rest) (units_same one other fits.1 suits.1 same.1)
