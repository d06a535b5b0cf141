-- The types in descriptors (JVMS §4.3), each as the text that says it.
use Rattle.std.specs.Prelude.{ℕ, Bool, List, [], ◌∷◌, ◌++◌, Option, Some, None, ◌==◌, ◌||◌, if◌then◌else◌}
use Rattle.cb_names.specs.Signs.{bracket, letter_boolean, letter_byte, letter_char, letter_class, letter_double, letter_float, letter_int, letter_long, letter_short, right_parenthesis, semicolon}
use Rattle.cb_kinds.specs.declared.descriptor.Sign.{Sign}
use Rattle.cb_kinds.specs.declared.descriptor.Sign.TheVariants.{Parenthesis, ValueType}

-- what a sign of a program says
abbrev pub sign_of : Sign → Option (List ℕ)
sign_of (ValueType text) = Some text.now
sign_of Parenthesis = None

abbrev pub is_base : ℕ → Bool
is_base unit =
    unit == letter_byte || unit == letter_char || unit == letter_double || unit == letter_float || unit == letter_int
    || unit == letter_long || unit == letter_short || unit == letter_boolean

-- what a descriptor says, in order: types, and none where the parenthesis behind the parameters stands. A type is the brackets
-- that were read, and a letter, or an L, a name and a semicolon
abbrev mutual
  pub signs_behind : List ℕ → List ℕ → List (Option (List ℕ))
  signs_behind brackets [] = []
  signs_behind brackets (unit ∷ rest) =
      if unit == bracket then signs_behind (brackets ++ unit ∷ []) rest
      else if unit == letter_class then signs_in_name (brackets ++ unit ∷ []) rest
      else if unit == right_parenthesis then None ∷ signs_behind [] rest
      else if is_base unit then Some (brackets ++ unit ∷ []) ∷ signs_behind [] rest
      else signs_behind [] rest

  -- the same within a name, behind what was read of the type so far
  pub signs_in_name : List ℕ → List ℕ → List (Option (List ℕ))
  signs_in_name text [] = []
  signs_in_name text (unit ∷ rest) =
      if unit == semicolon then Some (text ++ unit ∷ []) ∷ signs_behind [] rest else signs_in_name (text ++ unit ∷ []) rest

abbrev pub signs : List ℕ → List (Option (List ℕ))
signs text = signs_behind [] text

-- the types in front of the parenthesis, and behind it
abbrev pub in_front : List (Option (List ℕ)) → List (List ℕ)
in_front [] = []
in_front (None ∷ signs) = []
in_front (Some type ∷ signs) = type ∷ in_front signs

abbrev pub behind : List (Option (List ℕ)) → Option (List ℕ)
behind [] = None
behind (None ∷ signs) = first signs where
  first : List (Option (List ℕ)) → Option (List ℕ)
  first [] = None
  first (sign ∷ others) = sign
behind (Some type ∷ signs) = behind signs

-- the types of a method's parameters, and of what it gives, if it gives anything (§4.3.3)
abbrev pub parameters_of : List ℕ → List (List ℕ)
parameters_of descriptor = in_front (signs descriptor)

abbrev pub result_of : List ℕ → Option (List ℕ)
result_of descriptor = behind (signs descriptor)

-- all types in a descriptor
abbrev pub all_types : List (Option (List ℕ)) → List (List ℕ)
all_types [] = []
all_types (None ∷ signs) = all_types signs
all_types (Some type ∷ signs) = type ∷ all_types signs

abbrev pub types_of : List ℕ → List (List ℕ)
types_of descriptor = all_types (signs descriptor)
