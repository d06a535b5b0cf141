-- Rows of marks, which say for each class what is above it.
use Rattle.std.specs.Prelude.{◌≡◌, ◌↔◌, ℕ, ◌<◌, Bool, ◌==◌, List, [], ◌++◌, length, count_by, get_or, IsTrue}
use Rattle.std.specs.List.{Contains, list_any}
use Rattle.cb_hierarchy.specs.declared.class.Class.{Class}
use Rattle.cb_hierarchy.specs.Above.{IsAbove}
use Rattle.cb_hierarchy.specs.Classes.{listed}
use Rattle.cb_hierarchy.specs.Inner.{has, list_at}

-- what a class names
abbrev pub superclass_named : Class → List ℕ
superclass_named class = listed class.superclass

abbrev pub all_named : Class → List ℕ
all_named class = listed class.superclass ++ class.interfaces

abbrev pub marked : List (List Bool) → ℕ → ℕ → Bool
marked rows class other = has (get_or rows class []) other

-- so many rows, each of as many marks
pub record AreSquare (count : ℕ) (rows : List (List Bool)) : Type 0 where
  pub as_many : length rows ≡ count
  pub wide : (class : ℕ) → class < count → length (get_or rows class []) ≡ count

-- each row marks the numbers of a list
abbrev pub MarkLists : List (List ℕ) → List (List Bool) → Type 0
MarkLists lists rows = (class other : ℕ) → marked rows class other ≡ list_any (λ number. number == other) (list_at lists class)

-- a list has just what is above a class
abbrev pub ListsAbove : (ℕ → List ℕ) → ℕ → List ℕ → Type 0
ListsAbove parents class numbers = (other : ℕ) → Contains numbers other ↔ IsAbove parents class other

-- each row marks what is above its class
abbrev pub MarkAbove : (ℕ → List ℕ) → List (List Bool) → Type 0
MarkAbove parents rows = (class other : ℕ) → IsTrue (marked rows class other) ↔ IsAbove parents class other

abbrev pub how_many : List Bool → ℕ
how_many marks = count_by (λ mark. mark) marks

-- just the classes of a rank, which is the number of those above
pub record AreOfRank (ranks : List ℕ) (rank count : ℕ) (order : List ℕ) : Type 0 where
  pub only : (class : ℕ) → Contains order class → (class < count) × (get_or ranks class 0 ≡ rank)
  pub all : (class : ℕ) → class < count → get_or ranks class 0 ≡ rank → Contains order class
