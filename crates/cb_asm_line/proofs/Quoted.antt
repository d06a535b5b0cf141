-- Two texts in quotes differ where their spellings do.
use Rattle.std.proofs.Common.{◌≡◌, ◌≢◌, ◌∙◌, ap, sym, refl, inl, inr, arith, append_assoc, ℕ, ◌<◌, ◌^◌, Bool, true, false, List, [], ◌∷◌, ◌++◌, ◌==◌, ◌||◌, ◌&&◌, nat_le, drop, if◌then◌else◌}
use Rattle.std.specs.List.{flat_map}
use Rattle.std.proofs.lemmas.Bool.{eqb-true}
use Rattle.cb_text.specs.Text.{AreUnits}
use Rattle.cb_asm_line.specs.Quoting.{escape, quoted, quoted_unit, quote, backslash, letter_u}
use Rattle.cb_asm_line.specs.Inner.{IsQuoted, Plain, Marked, Escaped, is_quotable}
use Rattle.cb_asm_line.proofs.Spelled.{escaped_same}

-- what may stand by itself is neither
pub not_marked : (unit : ℕ) → is_quotable unit ≡ true → (unit ≢ quote) × (unit ≢ backslash)
not_marked unit is = ((λ told. grind (arith, is, told)), (λ told. grind (arith, is, told)))

pub unit_is_quoted : (unit : ℕ) → IsQuoted unit (quoted_unit unit)
unit_is_quoted unit = by_quote (unit == quote) refl (unit == backslash) refl (nat_le 0x20 unit && nat_le unit 0x7E) refl
  where
    by_quote : (is_quote : Bool) → (unit == quote) ≡ is_quote → (is_backslash : Bool) → (unit == backslash) ≡ is_backslash → (plain : Bool) → (nat_le 0x20 unit && nat_le unit 0x7E) ≡ plain
        → IsQuoted unit (if is_quote || is_backslash then backslash ∷ unit ∷ [] else if plain then unit ∷ [] else escape unit)
    by_quote true told other is plain small = Marked (inl (eqb-true unit quote told)) refl
    by_quote false told true is plain small = Marked (inr (eqb-true unit backslash is)) refl
    by_quote false told false is true small = Plain (grind (arith, told, is, small)) refl
    by_quote false told false is false small = Escaped refl

-- none begins with a quote
no_quote : (unit : ℕ) (spelled rest behind : List ℕ) → IsQuoted unit spelled → spelled ++ rest ≡ quote ∷ behind → ⊥
no_quote unit spelled rest behind (Plain stands is) whole = (not_marked unit stands).0 (let all : unit ∷ rest ≡ quote ∷ behind = ap (λ text. text ++ rest) (sym is) ∙ whole in cc all)
no_quote unit spelled rest behind (Marked one is) whole =
    let all : backslash ∷ unit ∷ rest ≡ quote ∷ behind = ap (λ text. text ++ rest) (sym is) ∙ whole in
    let first : backslash ≡ quote = cc all in omega (arith, first)
no_quote unit spelled rest behind (Escaped is) whole =
    let all : escape unit ++ rest ≡ quote ∷ behind = ap (λ text. text ++ rest) (sym is) ∙ whole in
    let first : backslash ≡ quote = cc all in omega (arith, first)

pub quoted_same : (one other : ℕ) (spelled written rest behind : List ℕ) → one < 2 ^ 16 → other < 2 ^ 16 → IsQuoted one spelled → IsQuoted other written
    → spelled ++ rest ≡ written ++ behind → (one ≡ other) × (rest ≡ behind)
quoted_same one other spelled written rest behind fits suits (Plain a is) (Plain c are) whole =
    let all : one ∷ rest ≡ other ∷ behind = ap (λ text. text ++ rest) (sym is) ∙ whole ∙ ap (λ text. text ++ behind) are in (cc all, cc all)
quoted_same one other spelled written rest behind fits suits (Plain a is) (Marked c are) whole =
    let all : one ∷ rest ≡ backslash ∷ other ∷ behind = ap (λ text. text ++ rest) (sym is) ∙ whole ∙ ap (λ text. text ++ behind) are in absurd ((not_marked one a).1 (cc all))
quoted_same one other spelled written rest behind fits suits (Plain a is) (Escaped are) whole =
    let all : one ∷ rest ≡ escape other ++ behind = ap (λ text. text ++ rest) (sym is) ∙ whole ∙ ap (λ text. text ++ behind) are in absurd ((not_marked one a).1 (cc all))
quoted_same one other spelled written rest behind fits suits (Marked a is) (Plain c are) whole =
    let all : backslash ∷ one ∷ rest ≡ other ∷ behind = ap (λ text. text ++ rest) (sym is) ∙ whole ∙ ap (λ text. text ++ behind) are in absurd ((not_marked other c).1 (sym (cc all)))
quoted_same one other spelled written rest behind fits suits (Marked a is) (Marked c are) whole =
    let all : backslash ∷ one ∷ rest ≡ backslash ∷ other ∷ behind = ap (λ text. text ++ rest) (sym is) ∙ whole ∙ ap (λ text. text ++ behind) are in (cc all, cc all)
quoted_same one other spelled written rest behind fits suits (Marked a is) (Escaped are) whole =
    let all : backslash ∷ one ∷ rest ≡ escape other ++ behind = ap (λ text. text ++ rest) (sym is) ∙ whole ∙ ap (λ text. text ++ behind) are in
    let second : one ≡ letter_u = cc all in
    absurd (elim a [ inl told ↦ omega (arith, told, second) | inr told ↦ omega (arith, told, second) ])
quoted_same one other spelled written rest behind fits suits (Escaped is) (Plain c are) whole =
    let all : escape one ++ rest ≡ other ∷ behind = ap (λ text. text ++ rest) (sym is) ∙ whole ∙ ap (λ text. text ++ behind) are in absurd ((not_marked other c).1 (sym (cc all)))
quoted_same one other spelled written rest behind fits suits (Escaped is) (Marked c are) whole =
    let all : escape one ++ rest ≡ backslash ∷ other ∷ behind = ap (λ text. text ++ rest) (sym is) ∙ whole ∙ ap (λ text. text ++ behind) are in
    let second : letter_u ≡ other = cc all in
    absurd (elim c [ inl told ↦ omega (arith, told, second) | inr told ↦ omega (arith, told, second) ])
quoted_same one other spelled written rest behind fits suits (Escaped is) (Escaped are) whole =
    escaped_same one other rest behind fits suits (ap (λ text. text ++ rest) (sym is) ∙ whole ∙ ap (λ text. text ++ behind) are)

-- the units up to the quote behind them
all_same : (one other : List ℕ) → AreUnits one → AreUnits other → flat_map quoted_unit one ++ quote ∷ [] ≡ flat_map quoted_unit other ++ quote ∷ [] → one ≡ other
all_same [] [] fits suits is = refl
all_same [] (unit ∷ other) fits suits is =
    absurd (no_quote unit _ _ _ (unit_is_quoted unit) (sym (append_assoc (quoted_unit unit) (flat_map quoted_unit other) (quote ∷ [])) ∙ sym is))
all_same (unit ∷ one) [] fits suits is =
    absurd (no_quote unit _ _ _ (unit_is_quoted unit) (sym (append_assoc (quoted_unit unit) (flat_map quoted_unit one) (quote ∷ [])) ∙ is))
all_same (unit ∷ one) (next ∷ other) fits suits is =
    let same = quoted_same unit next _ _ _ _ fits.0 suits.0 (unit_is_quoted unit) (unit_is_quoted next) (sym (append_assoc (quoted_unit unit) (flat_map quoted_unit one) (quote ∷ [])) ∙ is ∙ append_assoc (quoted_unit next) (flat_map quoted_unit other) (quote ∷ [])) in
    ap (λ first. first ∷ one) same.0 ∙ ap (λ rest. next ∷ rest) (all_same one other fits.1 suits.1 same.1)

pub text_same : (one other : List ℕ) → AreUnits one → AreUnits other → quoted one ≡ quoted other → one ≡ other
text_same one other fits suits is = all_same one other fits suits (ap (drop 1) is)
