-- What the store of four cells marks. The object of serial n + 1 has the mark at n.
use Rattle.std.specs.Prelude.{◌≡◌, ◌⊎◌, ◌&&◌, ℕ, Bool, true, false, List, Option, None, Some, slice_get, suc, if◌then◌else◌}
use Rattle.std.specs.List.{Contains}
use Rattle.cb_plain.specs.Reach.{IsReached, Points, root_references}
use Rattle.cb_plain.specs.State.{Object, Roots}
use Rattle.cb_heap.specs.Reading.{View}
use Rattle.cb_store_tests.specs.declared.cell.Cell.{Cell}

-- what the object of a cell refers to, 0 where it refers to none
abbrev pub referent_of : Cell → ℕ
referent_of cell = if cell.kept && cell.linked then cell.word else 0

-- a place of these, where there is any
abbrev pub IsAny : (ℕ → Type 0) → Option ℕ → Type 0
IsAny Is None = (place : ℕ) → ¬ Is place
IsAny Is (Some place) = Is place

-- what isn't marked: what a reference names, what a root names, and what a marked object points to
pub record IsUnmarked (marked : List Bool) (to place : ℕ) : Type 0 where
  pub is : to ≡ suc place
  pub unmarked : slice_get marked place ≡ Some false

pub record IsNamed (roots : Roots) (marked : List Bool) (place : ℕ) : Type 0 where
  pub root : Contains (root_references roots) (suc place)
  pub unmarked : slice_get marked place ≡ Some false

pub record IsBehind (objects : List (Option Object)) (marked : List Bool) (place : ℕ) : Type 0 where
  pub one : ℕ
  pub from : slice_get marked one ≡ Some true
  pub points : Points objects (suc one) (suc place)
  pub unmarked : slice_get marked place ≡ Some false

abbrev pub IsNext : View → List Bool → ℕ → Type 0
IsNext view marked place = IsNamed view.roots marked place ⊎ IsBehind view.objects marked place

-- what is marked is reached, and nothing is next
pub record IsMarked (view : View) (marked : List Bool) : Type 0 where
  pub reached : (place : ℕ) → slice_get marked place ≡ Some true → IsReached view.roots view.objects (suc place)
  pub all : (place : ℕ) → ¬ IsNext view marked place
