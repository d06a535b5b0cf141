-- Types of fields and methods (JVMS §4.3), and the text that says each.
use Rattle.std.specs.Prelude.{◌≡◌, ℕ, zero, suc, ◌<◌, ◌≤◌, ◌⊎◌, List, [], ◌∷◌, ◌++◌, replicate, map, Option, Some, None, IfSome}
use Rattle.std.specs.List.{AllByRecursion, concat, sum}
use Rattle.std.specs.Option.{option_map}
use Rattle.cb_names.specs.declared.base.BaseType.{BaseType}
use Rattle.cb_names.specs.declared.base.BaseType.TheVariants as base
use Rattle.cb_names.specs.declared.types.ElementType.{ElementType}
use Rattle.cb_names.specs.declared.types.ElementType.TheVariants as elements
use Rattle.cb_names.specs.declared.types.FieldType.{FieldType}
use Rattle.cb_names.specs.declared.types.MethodType.{MethodType}
use Rattle.cb_names.specs.Names.{IsClassName}
use Rattle.cb_names.specs.Signs.{semicolon, bracket, left_parenthesis, right_parenthesis, letter_byte, letter_char, letter_double, letter_float, letter_int, letter_long, letter_class, letter_short, letter_void, letter_boolean}

-- what is no array: a base type, or a class by its name
pub data Element : Type 0 where
  Primitive : BaseType → Element
  Named : List ℕ → Element

-- a type: an element behind so many dimensions
pub record JavaType : Type 0 where
  pub dimensions : ℕ
  pub element : Element

-- the types of a method's parameters, and of what it gives, if it gives anything
pub record JavaMethodType : Type 0 where
  pub parameters : List JavaType
  pub result : Option JavaType

-- the types that values of the program are
abbrev pub element_of : ElementType → Element
element_of (elements.Base base) = Primitive base
element_of (elements.Class name) = Named name.now

abbrev pub type_of : FieldType → JavaType
type_of type = record { dimensions = type.dimensions; element = element_of type.element }

abbrev pub method_type_of : MethodType → JavaMethodType
method_type_of type = record { parameters = map type_of type.parameters.items; result = option_map type_of type.result }

-- the letter of a base type (JVMS §4.3.2, table 4.3-A)
abbrev pub letter_of : BaseType → ℕ
letter_of base.Byte = letter_byte
letter_of base.Char = letter_char
letter_of base.Double = letter_double
letter_of base.Float = letter_float
letter_of base.Int = letter_int
letter_of base.Long = letter_long
letter_of base.Short = letter_short
letter_of base.Boolean = letter_boolean

-- a letter, or L, the name of a class and a semicolon
abbrev pub element_text : Element → List ℕ
element_text (Primitive base) = letter_of base ∷ []
element_text (Named name) = letter_class ∷ name ++ semicolon ∷ []

abbrev pub IsElement : Element → Type 0
IsElement (Primitive base) = Unit {0}
IsElement (Named name) = IsClassName name

-- a bracket for each dimension, of which there are at most 255, and the element (JVMS §4.3.2)
abbrev pub type_text : JavaType → List ℕ
type_text type = replicate type.dimensions bracket ++ element_text type.element

pub record IsType (type : JavaType) : Type 0 where
  pub few : type.dimensions ≤ 255
  pub element : IsElement type.element

pub record SpellsType (text : List ℕ) (type : JavaType) : Type 0 where
  pub is : IsType type
  pub spelled : text ≡ type_text type

-- a reference to an object or an array (JVMS §2.4)
abbrev pub IsReference : JavaType → Type 0
IsReference type = (0 < type.dimensions) ⊎ ((name : List ℕ) × (type.element ≡ Named name))

-- how many words a value takes: two for a long or double (JVMS §4.3.3)
abbrev pub element_words : Element → ℕ
element_words (Primitive base.Long) = 2
element_words (Primitive base.Double) = 2
element_words other = 1

abbrev words_behind : ℕ → Element → ℕ
words_behind zero element = element_words element
words_behind (suc dimensions) element = 1

abbrev pub type_words : JavaType → ℕ
type_words type = words_behind type.dimensions type.element

abbrev pub parameters_words : List JavaType → ℕ
parameters_words parameters = sum (map type_words parameters)

-- what a method gives: a value of a type, or nothing
abbrev pub result_text : Option JavaType → List ℕ
result_text None = letter_void ∷ []
result_text (Some type) = type_text type

pub record SpellsResult (text : List ℕ) (result : Option JavaType) : Type 0 where
  pub is : IfSome result IsType
  pub spelled : text ≡ result_text result

-- the parameters in parentheses, and the result. The parameters take at most 255 words (JVMS §4.3.3)
pub record SpellsMethodType (text : List ℕ) (type : JavaMethodType) : Type 0 where
  pub parameters : AllByRecursion IsType type.parameters
  pub result : IfSome type.result IsType
  pub few : parameters_words type.parameters ≤ 255
  pub spelled : text ≡ left_parenthesis ∷ concat (map type_text type.parameters) ++ right_parenthesis ∷ result_text type.result

-- what a constant Class names: a class by its name, or an array by its descriptor (JVMS §4.4.1)
abbrev pub NamesType : List ℕ → JavaType → Type 0
NamesType name type = (IsClassName name × (type ≡ record { dimensions = 0; element = Named name })) ⊎ (SpellsType name type × (0 < type.dimensions))
