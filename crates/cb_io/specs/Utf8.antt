-- UTF-16 units as UTF-8 (RFC 3629).
use Rattle.std.specs.Prelude.{ℕ, List, Option, unwrap_or}
use Rattle.std.specs.Char.{encode_utf8}
use Rattle.std.specs.Char.Utf16.{utf16_chars}
use Rattle.std.specs.List.{flat_map}

-- what stands for a surrogate without its partner: `?`
abbrev pub question_mark : ℕ
question_mark = 63

-- the bytes of a character, or of `?` where a surrogate had no partner
abbrev pub character_bytes : Option ℕ → List ℕ
character_bytes character = encode_utf8 (unwrap_or character question_mark)

-- the bytes of the characters that the units spell
abbrev pub utf8 : List ℕ → List ℕ
utf8 units = flat_map character_bytes (utf16_chars units)
