-- The units that have a meaning in names and descriptors (JVMS §4.2 and §4.3), and the names that stand for code.
use Rattle.std.specs.Prelude.{ℕ, List, codes}

abbrev pub left_parenthesis : ℕ
left_parenthesis = 40

abbrev pub right_parenthesis : ℕ
right_parenthesis = 41

abbrev pub dot : ℕ
dot = 46

abbrev pub slash : ℕ
slash = 47

abbrev pub semicolon : ℕ
semicolon = 59

abbrev pub less : ℕ
less = 60

abbrev pub greater : ℕ
greater = 62

abbrev pub bracket : ℕ
bracket = 91

-- the letters of descriptors (JVMS §4.3.2, table 4.3-A)
abbrev pub letter_byte : ℕ
letter_byte = 66

abbrev pub letter_char : ℕ
letter_char = 67

abbrev pub letter_double : ℕ
letter_double = 68

abbrev pub letter_float : ℕ
letter_float = 70

abbrev pub letter_int : ℕ
letter_int = 73

abbrev pub letter_long : ℕ
letter_long = 74

abbrev pub letter_class : ℕ
letter_class = 76

abbrev pub letter_short : ℕ
letter_short = 83

abbrev pub letter_void : ℕ
letter_void = 86

abbrev pub letter_boolean : ℕ
letter_boolean = 90

-- the names of constructors and of the initializers of classes (JVMS §2.9)
abbrev pub name_init : List ℕ
name_init = codes "<init>"

abbrev pub name_clinit : List ℕ
name_clinit = codes "<clinit>"
