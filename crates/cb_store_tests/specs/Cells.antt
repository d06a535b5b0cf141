-- What the tests of the store that never frees place: cells of a reference and a number, and arrays of references.
use Rattle.std.specs.Prelude.{◌≡◌, pos, ℕ, true, false, List, [], ◌∷◌, ◌++◌, Option, Some, IsTrue, length, zero, suc}
use Rattle.std.specs.Int.{int_wrap, w64}
use Rattle.std.specs.List.{list_all}
use Rattle.cb_plain.specs.declared.shape.Shape.{Shape}
use Rattle.cb_plain.specs.declared.shape.Shape.TheVariants as shapes
use Rattle.cb_plain.specs.State.{Content, Number, Object, Reference}
use Rattle.cb_heap.specs.Kept.{is_reference}

abbrev pub two_kinds : List Shape
two_kinds = shapes.Fields (true ∷ false ∷ []) ∷ shapes.Elements true ∷ []

-- so many cells, each of which refers to the one before it
abbrev pub cell : ℕ → Object
cell number = record { site = 7; kind = 0; contents = Reference number ∷ Number (int_wrap w64 (pos number)) ∷ [] }

unfoldable pub cells : ℕ → List (Option Object)
cells zero = []
cells (suc count) = cells count ++ Some (cell count) ∷ []

-- an array of so many references stands behind them
abbrev pub array : List Content → Object
array contents = record { site = 7; kind = 1; contents = contents }

pub record HasArray (count : ℕ) (objects : List (Option Object)) : Type 0 where
  pub contents : List Content
  pub all : objects ≡ cells count ++ Some (array contents) ∷ []
  pub long : length contents ≡ count
  pub references : IsTrue (list_all (λ content. is_reference (Some content)) contents)
