-- What values are, where kinds have numbers: numbers of a base type, or references to objects of a kind.
use Rattle.std.specs.Prelude.{ℕ, Bool, List, [], ◌∷◌, Option, Some, None, true, false, ◌==◌, ◌||◌, if◌then◌else◌}
use Rattle.std.specs.List.{position_or_len}
use Rattle.cb_names.specs.Signs.{bracket, letter_boolean, letter_byte, letter_char, letter_class, letter_double, letter_long, letter_short}
use Rattle.cb_kinds.specs.declared.basic.Basic.{Basic}
use Rattle.cb_kinds.specs.declared.basic.Basic.TheVariants.{Boolean, Byte, Char, Short, Int, Long, Reference}
use Rattle.cb_kinds.specs.Kinds.{name_in}
use Rattle.cb_kinds.specs.Texts.{same_text}

-- the number of a kind that is there
abbrev pub kind_number : List (List ℕ) → List ℕ → ℕ
kind_number kinds name = position_or_len (same_text name) kinds

-- what a type's values are (JVMS §4.3.2). A program has neither float nor double; they would count by their category (§2.11.1)
abbrev pub basic_of : List (List ℕ) → List ℕ → Basic
basic_of kinds [] = Int
basic_of kinds (unit ∷ rest) =
    if unit == bracket then Reference (kind_number kinds (unit ∷ rest))
    else if unit == letter_class then Reference (kind_number kinds (name_in rest))
    else if unit == letter_boolean then Boolean
    else if unit == letter_byte then Byte
    else if unit == letter_char then Char
    else if unit == letter_short then Short
    else if unit == letter_long || unit == letter_double then Long
    else Int

-- what the components of a kind are, if it is an array's
abbrev pub component_of : List (List ℕ) → List ℕ → Option Basic
component_of kinds [] = None
component_of kinds (unit ∷ rest) = if unit == bracket then Some (basic_of kinds rest) else None

abbrev pub is_reference : Basic → Bool
is_reference (Reference kind) = true
is_reference other = false
