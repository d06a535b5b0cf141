-- How names, descriptors and texts are written, which are lists of UTF-16 units. Each has one spelling, in ASCII.
use Rattle.std.specs.Prelude.{ℕ, ◌/◌, ◌%◌, Bool, true, not, List, [], ◌∷◌, ◌++◌, codes, ◌==◌, ◌&&◌, ◌||◌, nat_eq, nat_le, if◌then◌else◌}
use Rattle.std.specs.Cmp.Lexicographic.{pointwise}
use Rattle.std.specs.Fmt.{digit_glyph}
use Rattle.std.specs.List.{flat_map}
use Rattle.cb_asm_line.specs.Lines.{Word}

abbrev pub quote : ℕ
quote = 34

abbrev pub comma : ℕ
comma = 44

abbrev pub dash : ℕ
dash = 45

abbrev pub colon : ℕ
colon = 58

abbrev pub backslash : ℕ
backslash = 92

abbrev pub letter_u : ℕ
letter_u = 117

-- a unit by its number: a backslash, `u` and four hexadecimal digits in upper case
abbrev pub escape : ℕ → List ℕ
escape unit =
    backslash ∷ letter_u ∷ digit_glyph true (unit / 0x1000) ∷ digit_glyph true (unit / 0x100 % 0x10) ∷ digit_glyph true (unit / 0x10 % 0x10) ∷ digit_glyph true (unit % 0x10) ∷ []

-- a text stands in double quotes. A quote and a backslash have a backslash before them, and a unit outside 0x20 to 0x7E
-- is escaped
abbrev pub quoted_unit : ℕ → List ℕ
quoted_unit unit =
    if unit == quote || unit == backslash then backslash ∷ unit ∷ []
    else if nat_le 0x20 unit && nat_le unit 0x7E then unit ∷ []
    else escape unit

abbrev pub quoted : List ℕ → Word
quoted text = quote ∷ flat_map quoted_unit text ++ quote ∷ []

-- in a name or descriptor a unit outside 0x21 to 0x7E and each of `"`, `\`, `,` and `:` is escaped
abbrev pub is_plain : ℕ → Bool
is_plain unit =
    nat_le 0x21 unit && nat_le unit 0x7E && not (unit == quote || unit == backslash || unit == comma || unit == colon)

abbrev pub name_unit : ℕ → List ℕ
name_unit unit = if is_plain unit then unit ∷ [] else escape unit

-- the words that stand in place of a name where there is none. A name of just that has its first unit escaped
abbrev pub no_name : Word
no_name = codes "-"

abbrev pub any_name : Word
any_name = codes "any"

abbrev pub is_reserved : List ℕ → Bool
is_reserved name = pointwise nat_eq name no_name || pointwise nat_eq name any_name

abbrev pub name_word : List ℕ → Word
name_word [] = []
name_word (unit ∷ units) = (if is_reserved (unit ∷ units) then escape unit else name_unit unit) ++ flat_map name_unit units
