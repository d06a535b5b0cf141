-- Names and types at the front of a text, and what stands behind them.
use Rattle.std.specs.Prelude.{◌≡◌, ℕ, ◌<◌, Bool, false, List, ◌∷◌, ◌++◌, length, map}
use Rattle.std.specs.List.{AllByRecursion, concat, join_with_byte}
use Rattle.cb_names.specs.Names.{MayStandInName, IsUnqualifiedName, IsClassName}
use Rattle.cb_names.specs.Signs.{slash, semicolon, right_parenthesis}
use Rattle.cb_names.specs.Types.{Element, JavaType, IsElement, IsType, element_text, type_text}

-- the rest of a class's name, where the part so far has a unit or not
pub record IsRest (begun : Bool) (rest : List ℕ) : Type 0 where
  pub first : List ℕ
  pub others : List (List ℕ)
  pub stand : AllByRecursion MayStandInName first
  pub some : begun ≡ false → 0 < length first
  pub named : AllByRecursion IsUnqualifiedName others
  pub spelled : rest ≡ join_with_byte slash (first ∷ others)

-- the name of a class and a `;` stand in front of the rest
pub record BeginsWithName (text name rest : List ℕ) : Type 0 where
  pub is : IsClassName name
  pub spelled : text ≡ name ++ semicolon ∷ rest

-- a type that is no array does
pub record BeginsWithElement (text : List ℕ) (element : Element) (rest : List ℕ) : Type 0 where
  pub is : IsElement element
  pub spelled : text ≡ element_text element ++ rest

-- a type does
pub record BeginsWithType (text : List ℕ) (type : JavaType) (rest : List ℕ) : Type 0 where
  pub is : IsType type
  pub spelled : text ≡ type_text type ++ rest

-- the types of parameters do, and the `)` behind them
pub record BeginsWithParameters (text : List ℕ) (parameters : List JavaType) (rest : List ℕ) : Type 0 where
  pub are : AllByRecursion IsType parameters
  pub spelled : text ≡ concat (map type_text parameters) ++ right_parenthesis ∷ rest
