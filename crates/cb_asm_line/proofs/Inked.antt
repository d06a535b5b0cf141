-- Of which units the words of lines are.
use Rattle.std.proofs.Common.{◌≡◌, ◌∙◌, ap, refl, arith, ℕ, zero, suc, ◌/◌, ◌%◌, ◌<◌, ◌≤◌, ◌^◌, ℤ, pos, negsuc, w64, FitsSigned, Bool, true, false, List, [], ◌∷◌, ◌++◌, ◌&&◌, ◌||◌, ◌==◌, nat_le, slice_get, if◌then◌else◌}
use Rattle.std.specs.List.{AllByRecursion, flat_map, join_with_byte, list_all}
use Rattle.std.specs.Option.{unwrap_or}
use Rattle.std.specs.Fmt.{digit_glyph}
use Rattle.std.specs.Str.Parse.{AllDigits}
use Rattle.std.proofs.lemmas.Fmt.{decimal_is_IsNumeral}
use Rattle.std.proofs.lemmas.List.Folds.{list_all-append}
use Rattle.std.proofs.lemmas.Str.Parse.{digit_from_value}
use Rattle.cb_text.specs.Text.{AreUnits}
use Rattle.cb_asm_line.specs.Flags.{flags_word, joined, plus, set_words}
use Rattle.cb_asm_line.specs.Inner.{AreClear, AreInk, IsBare, IsShown, Lacks, begins_quoted, is_clear, is_ink, is_shown}
use Rattle.cb_asm_line.specs.Lines.{Line, Word, space}
use Rattle.cb_asm_line.specs.Numbers.{IsDecimal, IsDigit, decimal, signed_decimal}
use Rattle.cb_asm_line.specs.Operands.{label_word}
use Rattle.cb_asm_line.specs.Quoting.{backslash, escape, quote, is_plain, is_reserved, name_unit, name_word, quoted, quoted_unit}

-- what a test says of two texts it says of one behind the other
pub both : (test : ℕ → Bool) (one other : List ℕ) → list_all test one ≡ true → list_all test other ≡ true → list_all test (one ++ other) ≡ true
both test one other is are = list_all-append test one other ∙ grind (arith, is, are)

pub each_one : {X : Type 0} (test : X → Bool) (first : X) (rest : List X) → list_all test (first ∷ rest) ≡ true → (test first ≡ true) × (list_all test rest ≡ true)
each_one test first rest is = by_test (test first) (list_all test rest) is
  where
    by_test : (one other : Bool) → (one && other) ≡ true → (one ≡ true) × (other ≡ true)
    by_test true other told = (refl, told)
    by_test false other told = absurd (cc told)

pub one_more : {X : Type 0} (test : X → Bool) (first : X) (rest : List X) → test first ≡ true → list_all test rest ≡ true → list_all test (first ∷ rest) ≡ true
one_more test first rest is are = ap (λ told. told && list_all test rest) is ∙ are

clear_unit : (unit : ℕ) → is_clear unit ≡ true → is_ink unit ≡ true
clear_unit unit is = grind (arith, is)

shown_unit : (unit : ℕ) → is_ink unit ≡ true → is_shown unit ≡ true
shown_unit unit is = grind (arith, is)

weaker : (test other : ℕ → Bool) → ((unit : ℕ) → test unit ≡ true → other unit ≡ true) → (word : List ℕ) → list_all test word ≡ true → list_all other word ≡ true
weaker test other less [] is = refl
weaker test other less (unit ∷ word) is = let told = each_one test unit word is in one_more other unit word (less unit told.0) (weaker test other less word told.1)

pub ink_of : (word : List ℕ) → AreClear word → AreInk word
ink_of word is = weaker is_clear is_ink clear_unit word is

pub shown_of : (word : List ℕ) → AreInk word → list_all is_shown word ≡ true
shown_of word is = weaker is_ink is_shown shown_unit word is

-- numbers and labels
clear_digit : (unit : ℕ) → 48 ≤ unit → unit ≤ 57 → is_clear unit ≡ true
clear_digit unit least most = grind arith

numeral_clear : (digits : List ℕ) → AllDigits 10 digits → AreClear digits
numeral_clear [] are = refl
numeral_clear (digit ∷ digits) are =
    let told = digit_from_value digit are.0 in one_more is_clear digit digits (clear_digit digit told.0 told.1) (numeral_clear digits are.1)

pub decimal_clear : (number : ℕ) → number < 2 ^ 64 → AreClear (decimal number)
decimal_clear number fits = numeral_clear (decimal number) (decimal_is_IsNumeral number fits).0.1

pub signed_clear : (number : ℤ) → FitsSigned w64 number → AreClear (signed_decimal number)
signed_clear (pos number) fits = decimal_clear number (omega arith)
signed_clear (negsuc number) fits = one_more is_clear 45 (decimal (suc number)) refl (decimal_clear (suc number) (omega arith))

digits_clear : (digits : List ℕ) → AllByRecursion IsDigit digits → AreClear digits
digits_clear [] are = refl
digits_clear (digit ∷ digits) are = one_more is_clear digit digits (clear_digit digit are.0.0 are.0.1) (digits_clear digits are.1)

pub label_clear : (label : List ℕ) → IsDecimal label → AreClear (label_word label)
label_clear [] is = absurd is
label_clear (digit ∷ []) is = one_more is_clear digit [] (clear_digit digit is.0 is.1) refl
label_clear (digit ∷ next ∷ digits) is = one_more is_clear digit (next ∷ digits) (clear_digit digit is.1.0 is.1.1) (digits_clear (next ∷ digits) is.2)

-- names
clear_glyph : (value : ℕ) → value < 16 → is_clear (digit_glyph true value) ≡ true
clear_glyph value small = grind (arith, small)

four_clear : (a b c d : ℕ) → is_clear a ≡ true → is_clear b ≡ true → is_clear c ≡ true → is_clear d ≡ true → AreClear (a ∷ b ∷ c ∷ d ∷ [])
four_clear a b c d one two three four =
    one_more is_clear a (b ∷ c ∷ d ∷ []) one (one_more is_clear b (c ∷ d ∷ []) two (one_more is_clear c (d ∷ []) three (one_more is_clear d [] four refl)))

escape_clear : (unit : ℕ) → unit < 2 ^ 16 → AreClear (escape unit)
escape_clear unit fits =
    four_clear (digit_glyph true (unit / 0x1000)) (digit_glyph true (unit / 0x100 % 0x10)) (digit_glyph true (unit / 0x10 % 0x10)) (digit_glyph true (unit % 0x10))
    (clear_glyph (unit / 0x1000) (omega arith)) (clear_glyph (unit / 0x100 % 0x10) (omega arith)) (clear_glyph (unit / 0x10 % 0x10) (omega arith)) (clear_glyph (unit % 0x10) (omega arith))

clear_plain : (unit : ℕ) → is_plain unit ≡ true → is_clear unit ≡ true
clear_plain unit is = grind (arith, is)

unit_clear : (unit : ℕ) → unit < 2 ^ 16 → AreClear (name_unit unit)
unit_clear unit fits = by_test (is_plain unit) refl
  where
    by_test : (test : Bool) → is_plain unit ≡ test → AreClear (if test then unit ∷ [] else escape unit)
    by_test true told = one_more is_clear unit [] (clear_plain unit told) refl
    by_test false told = escape_clear unit fits

units_clear : (units : List ℕ) → AreUnits units → AreClear (flat_map name_unit units)
units_clear [] fits = refl
units_clear (unit ∷ units) fits = both is_clear (name_unit unit) (flat_map name_unit units) (unit_clear unit fits.0) (units_clear units fits.1)

pub name_clear : (name : List ℕ) → AreUnits name → AreClear (name_word name)
name_clear [] fits = refl
name_clear (unit ∷ units) fits = by_test (is_reserved (unit ∷ units))
  where
    by_test : (test : Bool) → AreClear ((if test then escape unit else name_unit unit) ++ flat_map name_unit units)
    by_test true = both is_clear (escape unit) (flat_map name_unit units) (escape_clear unit fits.0) (units_clear units fits.1)
    by_test false = both is_clear (name_unit unit) (flat_map name_unit units) (unit_clear unit fits.0) (units_clear units fits.1)

-- texts in quotes
escape_shown : (unit : ℕ) → unit < 2 ^ 16 → list_all is_shown (escape unit) ≡ true
escape_shown unit fits = shown_of (escape unit) (ink_of (escape unit) (escape_clear unit fits))

shown_alone : (unit : ℕ) → (nat_le 0x20 unit && nat_le unit 0x7E) ≡ true → is_shown unit ≡ true
shown_alone unit is = is

quoted_unit_shown : (unit : ℕ) → unit < 2 ^ 16 → list_all is_shown (quoted_unit unit) ≡ true
quoted_unit_shown unit fits = by_quote (unit == quote || unit == backslash) refl (nat_le 0x20 unit && nat_le unit 0x7E) refl
  where
    by_quote : (mark : Bool) → (unit == quote || unit == backslash) ≡ mark → (plain : Bool) → (nat_le 0x20 unit && nat_le unit 0x7E) ≡ plain
        → list_all is_shown (if mark then backslash ∷ unit ∷ [] else if plain then unit ∷ [] else escape unit) ≡ true
    by_quote true told plain small = let shown : is_shown unit ≡ true = grind (arith, told) in one_more is_shown backslash (unit ∷ []) refl (one_more is_shown unit [] shown refl)
    by_quote false told true small = one_more is_shown unit [] small refl
    by_quote false told false small = escape_shown unit fits

text_shown : (text : List ℕ) → AreUnits text → list_all is_shown (flat_map quoted_unit text) ≡ true
text_shown [] fits = refl
text_shown (unit ∷ text) fits = both is_shown (quoted_unit unit) (flat_map quoted_unit text) (quoted_unit_shown unit fits.0) (text_shown text fits.1)

pub quoted_shown : (text : List ℕ) → AreUnits text → list_all is_shown (quoted text) ≡ true
quoted_shown text fits = one_more is_shown quote (flat_map quoted_unit text ++ quote ∷ []) refl (both is_shown (flat_map quoted_unit text) (quote ∷ []) (text_shown text fits) refl)

-- words of tables, and flags
pub at_clear : (words : List Word) (place : ℕ) → list_all (list_all is_clear) words ≡ true → AreClear (unwrap_or (slice_get words place) [])
at_clear [] place are = refl
at_clear (word ∷ words) zero are = (each_one (list_all is_clear) word words are).0
at_clear (word ∷ words) (suc place) are = at_clear words place (each_one (list_all is_clear) word words are).1

set_clear : (words : List Word) (flags : ℕ) → list_all (list_all is_clear) words ≡ true → list_all (list_all is_clear) (set_words words flags) ≡ true
set_clear [] flags are = refl
set_clear (word ∷ words) flags are = by_test (flags % 2 == 1) (set_clear words (flags / 2) told.1)
  where
    told : AreClear word × (list_all (list_all is_clear) words ≡ true)
    told = each_one (list_all is_clear) word words are

    by_test : (test : Bool) → list_all (list_all is_clear) (set_words words (flags / 2)) ≡ true → list_all (list_all is_clear) (if test then word ∷ set_words words (flags / 2) else set_words words (flags / 2)) ≡ true
    by_test true rest = one_more (list_all is_clear) word (set_words words (flags / 2)) told.0 rest
    by_test false rest = rest

-- words with a unit between two
pub joined_are : (test : ℕ → Bool) (unit : ℕ) (words : List Word) → test unit ≡ true → list_all (list_all test) words ≡ true → list_all test (join_with_byte unit words) ≡ true
joined_are test unit [] is are = refl
joined_are test unit (word ∷ []) is are = (each_one (list_all test) word [] are).0
joined_are test unit (word ∷ next ∷ words) is are =
    let told = each_one (list_all test) word (next ∷ words) are in
    both test word (unit ∷ join_with_byte unit (next ∷ words)) told.0 (one_more test unit (join_with_byte unit (next ∷ words)) is (joined_are test unit (next ∷ words) is told.1))

pub flags_clear : (words : List Word) (flags : ℕ) → list_all (list_all is_clear) words ≡ true → AreClear (flags_word words flags)
flags_clear words flags are = by_set (set_words words flags) (set_clear words flags are)
  where
    by_set : (set : List Word) → list_all (list_all is_clear) set ≡ true → AreClear (joined set)
    by_set [] told = refl
    by_set (word ∷ set) told = joined_are is_clear plus (word ∷ set) refl told

-- lines, word by word
unquoted : (word : Word) → AreInk word → begins_quoted word ≡ false
unquoted [] are = refl
unquoted (unit ∷ word) are = let told = (each_one is_ink unit word are).0 in grind (arith, told)

spaceless : (word : Word) → AreInk word → Lacks space word
spaceless [] are = tt
spaceless (unit ∷ word) are = let told = each_one is_ink unit word are in ((λ is. let ink = told.0 in grind (arith, ink, is)), spaceless word told.1)

pub bare : (word : Word) → AreInk word → IsBare word
bare word are = record { unquoted = unquoted word are; whole = spaceless word are }

pub last_word : (word : Word) → AreInk word → IsShown (word ∷ [])
last_word word are = record { apart = λ _. spaceless word are; units = shown_of word are }

pub last_text : (text : List ℕ) → AreUnits text → IsShown (quoted text ∷ [])
last_text text fits = record { apart = λ is. absurd (cc is); units = quoted_shown text fits }

pub more : (word : Word) (words : Line) → AreInk word → IsShown words → IsShown (word ∷ words)
more word [] are shown = absurd shown.apart
more word (next ∷ words) are shown = record {
  apart = (bare word are, shown.apart);
  units = both is_shown word (space ∷ join_with_byte space (next ∷ words)) (shown_of word are) (one_more is_shown space (join_with_byte space (next ∷ words)) refl shown.units);
}

pub all_words : (word : Word) (words : Line) → AreInk word → list_all (list_all is_ink) words ≡ true → IsShown (word ∷ words)
all_words word [] is are = last_word word is
all_words word (next ∷ words) is are =
    let told = each_one (list_all is_ink) next words are in more word (next ∷ words) is (all_words next words told.0 told.1)
