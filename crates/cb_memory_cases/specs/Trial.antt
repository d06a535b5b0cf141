-- What the trial of all stores asks of a heap in parts.
use Rattle.std.specs.Prelude.{◌≡◌, ℕ, true, List, [], ◌∷◌}
use Rattle.cb_plain.specs.declared.shape.Shape.{Shape}
use Rattle.cb_plain.specs.declared.shape.Shape.TheVariants as shapes
use Rattle.cb_plain.specs.Reach.{root_references}
use Rattle.cb_plain.specs.State.{Roots}
use Rattle.cb_heap.specs.Reading.{read_roots}
use Rattle.cb_partheap.specs.Heaps.{Heap, objects_in}

-- objects without words, and objects of one reference
abbrev pub trial_kinds : List Shape
trial_kinds = shapes.Fields [] ∷ shapes.Fields (true ∷ []) ∷ []

-- a heap for these at one site, without objects
pub record IsReady (heap : Heap) : Type 0 where
  pub shapes : heap.shapes ≡ trial_kinds
  pub sites : heap.site_parts ≡ 0 ∷ []
  pub objects : objects_in heap ≡ []

-- roots that name nothing, however places are read
abbrev pub NamesNone : Roots → Type 0
NamesNone roots = (index : ℕ → ℕ) → root_references (read_roots index roots) ≡ []
