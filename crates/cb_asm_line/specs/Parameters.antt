-- The types of the parameters in a method descriptor (JVMS §4.3.3).
use Rattle.std.specs.Prelude.{ℕ, zero, suc, ◌+◌, List, [], ◌∷◌, ◌++◌, ◌==◌, if◌then◌else◌}
use Rattle.cb_names.specs.declared.base.BaseType.{BaseType}
use Rattle.cb_names.specs.declared.base.BaseType.TheVariants as base
use Rattle.cb_names.specs.Signs.{right_parenthesis, semicolon, bracket, letter_byte, letter_char, letter_double, letter_float, letter_int, letter_long, letter_class, letter_short}
use Rattle.cb_names.specs.Types.{JavaType, Primitive, Named, parameters_words}

-- the base type of a letter; that of the last, where the letter is no other's
abbrev pub base_of : ℕ → BaseType
base_of letter =
    if letter == letter_byte then base.Byte
    else if letter == letter_char then base.Char
    else if letter == letter_double then base.Double
    else if letter == letter_float then base.Float
    else if letter == letter_int then base.Int
    else if letter == letter_long then base.Long
    else if letter == letter_short then base.Short
    else base.Boolean

-- the types up to the parenthesis that closes them, where so many brackets stand before the first
abbrev mutual
  pub types_behind : ℕ → List ℕ → List JavaType
  types_behind brackets [] = []
  types_behind brackets (unit ∷ text) =
      if unit == right_parenthesis then []
      else if unit == bracket then types_behind (suc brackets) text
      else if unit == letter_class then named_behind brackets [] text
      else record { dimensions = brackets; element = Primitive (base_of unit) } ∷ types_behind zero text

  -- the same behind the L of a class type, with so much of its name read
  pub named_behind : ℕ → List ℕ → List ℕ → List JavaType
  named_behind brackets name [] = []
  named_behind brackets name (unit ∷ text) =
      if unit == semicolon then record { dimensions = brackets; element = Named name } ∷ types_behind zero text
      else named_behind brackets (name ++ unit ∷ []) text

abbrev pub parameters_of : List ℕ → List JavaType
parameters_of [] = []
parameters_of (unit ∷ text) = types_behind zero text

-- how many words the arguments of a method of an instance take, `this` among them: the count of invokeinterface
-- (JVMS §6.5.invokeinterface)
abbrev pub argument_words : List ℕ → ℕ
argument_words descriptor = parameters_words (parameters_of descriptor) + 1
