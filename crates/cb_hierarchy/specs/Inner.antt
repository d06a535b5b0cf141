-- What this crate's own functions and proofs cite, and no public clause.
use Rattle.std.specs.Prelude.{◌≡◌, ℕ, ◌<◌, Bool, false, ◌||◌, ◌==◌, not, if◌then◌else◌, List, [], length, take, slice_get, get_or, Option, Some, None}
use Rattle.std.specs.List.{Contains, list_any}
use Rattle.cb_hierarchy.specs.declared.class.Class.{Class}
use Rattle.cb_hierarchy.specs.declared.member.Method.{Method}
use Rattle.cb_hierarchy.specs.Classes.{parents}
use Rattle.cb_hierarchy.specs.Orders.{distinct}
use Rattle.cb_hierarchy.specs.Resolution.{method_is}

-- the list of a number, or none
abbrev pub list_at : List (List ℕ) → ℕ → List ℕ
list_at lists number = get_or lists number []

-- all classes, each behind its parents. Each has a rank above those of its parents and below the number of classes
pub record IsParentsFirst (classes : List Class) (order : List ℕ) : Type 0 where
  pub every : (class : ℕ) → class < length classes → Contains order class
  pub below : (class : ℕ) → Contains order class → class < length classes
  pub behind : (place class parent : ℕ) → slice_get order place ≡ Some class → Contains (parents classes class) parent
      → Contains (take place order) parent
  pub rank : ℕ → ℕ
  pub rising : (class parent : ℕ) → Contains (parents classes class) parent → rank parent < rank class
  pub low : (class : ℕ) → class < length classes → rank class < length classes

-- what a rule says of a class depends on what is said of its parents alone
abbrev pub IsLocal : List Class → ((ℕ → List ℕ) → ℕ → List ℕ) → Type 0
IsLocal classes rule =
    (class : ℕ) (one other : ℕ → List ℕ) → ((parent : ℕ) → Contains (parents classes class) parent → one parent ≡ other parent)
    → rule one class ≡ rule other class

-- whether a number is marked
abbrev pub has : List Bool → ℕ → Bool
has marks number = get_or marks number false

-- just the numbers of a list are marked
abbrev pub MarksList : List ℕ → List Bool → Type 0
MarksList numbers marks = (number : ℕ) → has marks number ≡ list_any (λ other. other == number) numbers

-- these marks, and that of one number more
abbrev pub AreWith : List Bool → ℕ → List Bool → Type 0
AreWith before added marks = (number : ℕ) → has marks number ≡ (has before number || (number == added))

-- numbers once each, in the order in which they were taken, with their marks
pub record AreDistinct (taken numbers : List ℕ) (marks : List Bool) : Type 0 where
  pub once : numbers ≡ distinct taken
  pub marked : MarksList numbers marks

-- a method, unless it is static
abbrev pub of_objects : List Method → Option ℕ → Option ℕ
of_objects methods None = None
of_objects methods (Some method) = if method_is methods (λ own. not own.is_static) method then Some method else None
