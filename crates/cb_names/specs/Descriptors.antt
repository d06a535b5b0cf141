-- Descriptors of fields and methods (JVMS §4.3), as lists of UTF-16 units.
use Rattle.std.specs.Prelude.{◌≡◌, ℕ, ◌<◌, List, [], ◌∷◌, Option, Some, None, ◌==◌, ◌||◌, if◌then◌else◌}
use Rattle.cb_names.specs.declared.floating.Floating.{Floating}
use Rattle.cb_names.specs.declared.floating.Floating.TheVariants.{Float, Double}
use Rattle.cb_names.specs.Signs.{semicolon, letter_double, letter_float, letter_long, letter_class}
use Rattle.cb_names.specs.Types.{JavaType, JavaMethodType, SpellsType, SpellsResult, SpellsMethodType, parameters_words}

-- a field descriptor: the text of some type (JVMS §4.3.2)
abbrev pub IsFieldDescriptor : List ℕ → Type 0
IsFieldDescriptor text = (type : JavaType) × SpellsType text type

-- one that is an array's, as it stands in place of a class's name (JVMS §4.4.1)
abbrev pub IsArrayDescriptor : List ℕ → Type 0
IsArrayDescriptor text = (type : JavaType) × SpellsType text type × (0 < type.dimensions)

-- what a method gives: a value of a type, or nothing
abbrev pub IsReturnDescriptor : List ℕ → Type 0
IsReturnDescriptor text = (result : Option JavaType) × SpellsResult text result

-- how many words a parameter of this descriptor takes: two for a long or double (JVMS §4.3.3)
abbrev pub words_of : List ℕ → ℕ
words_of (unit ∷ []) = if (unit == letter_long) || (unit == letter_double) then 2 else 1
words_of text = 1

-- a method descriptor whose parameters take so many words: the text of some type of a method (JVMS §4.3.3)
pub record IsMethodDescriptor (text : List ℕ) (words : ℕ) : Type 0 where
  pub type : JavaMethodType
  pub spells : SpellsMethodType text type
  pub counted : words ≡ parameters_words type.parameters

-- the first of the base types F and D in a descriptor. What stands in the name of a class is none
abbrev mutual
  pub floating_in : List ℕ → Option Floating
  floating_in [] = None
  floating_in (unit ∷ rest) =
      if unit == letter_float then Some Float
      else if unit == letter_double then Some Double
      else if unit == letter_class then floating_behind rest
      else floating_in rest

  -- the same, behind the L of a class type
  pub floating_behind : List ℕ → Option Floating
  floating_behind [] = None
  floating_behind (unit ∷ rest) = if unit == semicolon then floating_in rest else floating_behind rest
