-- What a store is seen as.
use Rattle.std.specs.Prelude.{ℕ, Bool, List, Option}
use Rattle.cb_plain.specs.State.{Object, Roots}
use Rattle.cb_plain.specs.declared.shape.Shape.{Shape}
use Rattle.cb_plain.specs.declared.want.Want.{Want}
use Rattle.cb_heap.specs.Reading.{View, seen}

-- what never changes while a store lives: the shapes of the objects of each kind, of which sites room can be made for objects, and whether
-- objects of one site may refer to those of another
pub record Settings : Type 0 where
  pub shapes : List Shape
  pub knows : ℕ → Bool
  pub allows : ℕ → ℕ → Bool

-- the objects that it keeps, of all that were ever placed; how many objects were placed before the one at a place; what it knows besides; the
-- room that was made and isn't taken yet; how often the report on a collection couldn't be written; and what never changes. A number that is no
-- place of an object is to be read as an object that isn't kept, so that nothing can be asked of it: as many as there are objects will do
pub record Storage (Facts : Type 0) : Type 0 where
  pub kept : List (Option Object)
  pub index : ℕ → ℕ
  pub facts : Facts
  pub granted : List Want
  pub faults : ℕ
  pub settings : Settings

-- what roots and a store are seen as
abbrev pub view_in : {Facts : Type 0} → Storage Facts → Roots → View
view_in store roots = seen store.index store.kept roots
