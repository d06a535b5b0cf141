-- Classes and interfaces by their numbers, and those that each names as its superclass and its direct superinterfaces.
use Rattle.std.specs.Prelude.{ℕ, ◌<◌, ◌^◌, Bool, List, [], ◌∷◌, ◌++◌, length, slice_get, Option, Some, None, false}
use Rattle.std.specs.List.{Contains}
use Rattle.cb_hierarchy.specs.declared.class.Class.{Class}

abbrev pub listed : {X : Type 0} → Option X → List X
listed None = []
listed (Some item) = item ∷ []

-- the numbers that the class of a number has, if there is that class
abbrev numbers_of : (Class → List ℕ) → Option Class → List ℕ
numbers_of numbers None = []
numbers_of numbers (Some class) = numbers class

abbrev pub superclass : List Class → ℕ → List ℕ
superclass classes number = numbers_of (λ class. listed class.superclass) (slice_get classes number)

abbrev pub superinterfaces : List Class → ℕ → List ℕ
superinterfaces classes number = numbers_of (λ class. class.interfaces) (slice_get classes number)

abbrev pub parents : List Class → ℕ → List ℕ
parents classes number = superclass classes number ++ superinterfaces classes number

-- what is so of the class of a number, if there is that class
abbrev holds_of : (Class → Bool) → Option Class → Bool
holds_of test None = false
holds_of test (Some class) = test class

abbrev pub is_interface : List Class → ℕ → Bool
is_interface classes number = holds_of (λ class. class.is_interface) (slice_get classes number)

abbrev pub is_final : List Class → ℕ → Bool
is_final classes number = holds_of (λ class. class.is_final) (slice_get classes number)

-- the classes name just classes of the list, and there are fewer than 2^32
pub record AreClasses (classes : List Class) : Type 0 where
  pub few : length classes < 2 ^ 32
  pub below : (number parent : ℕ) → Contains (parents classes number) parent → parent < length classes
