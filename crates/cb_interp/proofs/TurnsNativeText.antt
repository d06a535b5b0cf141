-- Text in ASCII that is printed: it is UTF-8 as it is.
use Rattle.std.proofs.Common.{◌≡◌, ◌∙◌, ap, ap₂, arith, refl, ℕ, ◌<◌, Bool, true, false, List, [], ◌∷◌, ◌++◌, ◌+◌, drop, length, replicate, take, Some, zero, suc}
use Rattle.std.proofs.lemmas.Bool.Decides.{nat_tests}
use Rattle.std.proofs.lemmas.Str.{IsAscii-append, encode_ascii, utf16_chars-nil, utf16_chars_lone}
use Rattle.std.proofs.lemmas.Str.Ascii.{IsAscii-cons, IsAscii-nil}
use Rattle.std.proofs.Math.Seq.{take-append-add}
use Rattle.std.specs.Char.Utf16.{lone_unit_char}
use Rattle.std.specs.List.{flat_map}
use Rattle.std.specs.Prelude.{codes, IsAscii}
use Rattle.cb_io.specs.Utf8.{character_bytes, utf8}
use Rattle.cb_interp.specs.Printing.{as_line}

-- a unit below the surrogates is a character
alone : (unit : ℕ) → unit < 128 → lone_unit_char unit ≡ Some unit
alone unit low = grind (arith, nat_tests)

bytes_of : (unit : ℕ) → unit < 128 → character_bytes (lone_unit_char unit) ≡ unit ∷ []
bytes_of unit low = ap character_bytes (alone unit low) ∙ encode_ascii unit low

pub utf8_ascii : (text : List ℕ) → IsAscii text → utf8 text ≡ text
utf8_ascii [] ascii = ap (flat_map character_bytes) utf16_chars-nil
utf8_ascii (unit ∷ text) ascii =
    let low : unit < 128 = ascii 0 in
    ap (flat_map character_bytes) (utf16_chars_lone unit text (λ pair. absurd (omega (arith, pair.0, low))))
    ∙ ap₂ (λ (one rest : List ℕ). one ++ rest) (bytes_of unit low) (utf8_ascii text (λ place. ascii (suc place)))

pub line_ascii : (line : Bool) (text : List ℕ) → IsAscii text → IsAscii (as_line line text)
line_ascii false text ascii = ascii
line_ascii true text ascii = IsAscii-append text (codes "\n") ascii (IsAscii-cons 10 [] (omega arith) IsAscii-nil)

pub text_bytes : (line : Bool) (text : List ℕ) → IsAscii text → utf8 (as_line line text) ≡ as_line line text
text_bytes line text ascii = utf8_ascii (as_line line text) (line_ascii line text ascii)

-- a text over the first of many newlines, and one newline more
end_behind : (end n size : ℕ) → n < size → take 1 (drop n (replicate size end)) ≡ end ∷ []
end_behind end n zero below = absurd (omega arith)
end_behind end zero (suc size) below = refl
end_behind end (suc n) (suc size) below = end_behind end n size (omega arith)

pub line_in : (end size : ℕ) (text copied : List ℕ) → length text < size → copied ≡ text
    → take (length text + 1) (copied ++ drop (length text) (replicate size end)) ≡ text ++ end ∷ []
line_in end size text copied fits is =
    ap (λ xs. take (length text + 1) (xs ++ drop (length text) (replicate size end))) is
    ∙ take-append-add text (drop (length text) (replicate size end)) 1
    ∙ ap (λ xs. text ++ xs) (end_behind end (length text) size fits)
