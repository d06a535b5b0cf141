-- Modified UTF-8 (JVMS §4.4.7): each UTF-16 unit is spelled alone, and has one spelling.
use Rattle.std.specs.Prelude.{ℕ, ◌+◌, ◌/◌, ◌%◌, ◌^◌, ◌<◌, List, [], ◌∷◌, nat_lt, nat_le, ◌&&◌, if◌then◌else◌}
use Rattle.std.specs.List.{AllByRecursion, flat_map}

-- the bytes of a unit: one for 0x0001 to 0x007F, two for 0 and 0x0080 to 0x07FF, else three
abbrev pub unit_bytes : ℕ → List ℕ
unit_bytes unit =
    if nat_le 1 unit && nat_lt unit 0x80 then unit ∷ []
    else if nat_lt unit 0x800 then (0xC0 + unit / 0x40) ∷ (0x80 + unit % 0x40) ∷ []
    else (0xE0 + unit / 0x1000) ∷ (0x80 + unit / 0x40 % 0x40) ∷ (0x80 + unit % 0x40) ∷ []

-- the bytes of a text
abbrev pub text_bytes : List ℕ → List ℕ
text_bytes units = flat_map unit_bytes units

-- each is a UTF-16 unit
abbrev pub AreUnits : List ℕ → Type 0
AreUnits units = AllByRecursion (λ unit. unit < 2 ^ 16) units
