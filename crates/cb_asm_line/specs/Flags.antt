-- Access flags: the words of those that are set, from the lowest bit to the highest, with `+` between two, or `0`.
use Rattle.std.specs.Prelude.{ℕ, ◌/◌, ◌%◌, List, [], ◌∷◌, codes, ◌==◌, if◌then◌else◌}
use Rattle.std.specs.List.{join_with_byte}
use Rattle.cb_asm_line.specs.Lines.{Word, words_of}

abbrev pub plus : ℕ
plus = 43

-- the word of each bit, from the lowest: that of the standard's name in lower case without `ACC_`, or `bit` and the
-- number of the bit (JVMS tables 4.1-A, 4.5-A and 4.6-A)
abbrev pub class_flags : List Word
class_flags = words_of (codes "public bit1 bit2 bit3 final super bit6 bit7 bit8 interface abstract bit11 synthetic annotation enum bit15")

abbrev pub field_flags : List Word
field_flags = words_of (codes "public private protected static final bit5 volatile transient bit8 bit9 bit10 bit11 synthetic bit13 enum bit15")

abbrev pub method_flags : List Word
method_flags = words_of (codes "public private protected static final synchronized bridge varargs native bit9 abstract strict synthetic bit13 bit14 bit15")

-- the words of the bits that are set, by the words of all bits
abbrev pub set_words : List Word → ℕ → List Word
set_words [] flags = []
set_words (word ∷ words) flags = if flags % 2 == 1 then word ∷ set_words words (flags / 2) else set_words words (flags / 2)

abbrev pub joined : List Word → Word
joined [] = codes "0"
joined (word ∷ words) = join_with_byte plus (word ∷ words)

abbrev pub flags_word : List Word → ℕ → Word
flags_word words flags = joined (set_words words flags)
