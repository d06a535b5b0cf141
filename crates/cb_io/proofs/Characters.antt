-- The character at the front of UTF-16 units, as UTF-8.
use Rattle.std.proofs.Common.{◌≡◌, ℕ, ◌-◌, ◌≤◌, Bool, true, false, ◌&&◌, List, [], ◌∷◌, ◌++◌, length, length-drop, take, drop, Some, refl, ap, arith, if◌then◌else◌}
use Rattle.std.specs.Prelude.{slice_index, unwrap_or}
use Rattle.std.specs.Char.{encode_utf8}
use Rattle.std.specs.Char.Utf16.{is_high_surrogate, is_low_surrogate, lone_unit_char, surrogate_pair_char, utf16_chars}
use Rattle.std.specs.List.{flat_map}
use Rattle.std.proofs.lemmas.List.{take_all}
use Rattle.cb_io.specs.Utf8.{character_bytes, question_mark, utf8}

-- whether the units begin with a pair of surrogates
abbrev pub begins_with_pair : List ℕ → Bool
begins_with_pair (high ∷ low ∷ units) = is_high_surrogate high && is_low_surrogate low
begins_with_pair units = false

-- a pair is one character
pub pair_front : (units : List ℕ) → begins_with_pair units ≡ true → utf8 units ≡ encode_utf8 (surrogate_pair_char (slice_index units 0) (slice_index units 1)) ++ utf8 (drop 2 units)
unfolding utf16_chars
pair_front (high ∷ low ∷ units) is =
    ap (flat_map character_bytes) (ap (λ test. if test then Some (surrogate_pair_char high low) ∷ utf16_chars units else lone_unit_char high ∷ utf16_chars (low ∷ units)) is)
pair_front (unit ∷ []) is = cc
pair_front [] is = cc

-- and any other unit is one
pub alone_front : (units : List ℕ) → 1 ≤ length units → begins_with_pair units ≡ false → utf8 units ≡ encode_utf8 (unwrap_or (lone_unit_char (slice_index units 0)) question_mark) ++ utf8 (drop 1 units)
unfolding utf16_chars
alone_front [] some is = absurd (omega (arith, some))
alone_front (unit ∷ []) some is = refl
alone_front (high ∷ low ∷ units) some is =
    ap (flat_map character_bytes) (ap (λ test. if test then Some (surrogate_pair_char high low) ∷ utf16_chars units else lone_unit_char high ∷ utf16_chars (low ∷ units)) is)

-- all that is left of the units is what stands behind so many
pub left : (units : List ℕ) (count : ℕ) → count ≤ length units → take (length units - count) (drop count units) ≡ drop count units
left units count few = take_all (length units - count) (drop count units) (omega (arith, length-drop count units))

-- two units are a pair exactly where the test says so
pub pair_test : (units : List ℕ) → 2 ≤ length units → begins_with_pair units ≡ (is_high_surrogate (slice_index units 0) && is_low_surrogate (slice_index units 1))
pair_test [] long = absurd (omega (arith, long))
pair_test (unit ∷ []) long = absurd (omega (arith, long))
pair_test (high ∷ low ∷ units) long = refl

pub no_pair : (units : List ℕ) → length units ≤ 1 → begins_with_pair units ≡ false
no_pair [] short = refl
no_pair (unit ∷ []) short = refl
no_pair (high ∷ low ∷ units) short = absurd (omega (arith, short))

-- no unit has no byte
pub no_bytes : utf8 [] ≡ []
unfolding utf16_chars
no_bytes = refl
