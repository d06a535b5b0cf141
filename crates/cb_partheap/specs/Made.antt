-- Heaps without objects.
use Rattle.std.specs.Prelude.{◌≡◌, ◌↔◌, ℕ, Bool, List, [], length}
use Rattle.cb_plain.specs.declared.shape.Shape.{Shape}
use Rattle.cb_dag.specs.Graphs.{HasEdge}
use Rattle.cb_dag.specs.Parts.{Condensed, HasPair}
use Rattle.cb_blocks.specs.Parted.{empty_parts}
use Rattle.cb_partheap.specs.Heaps.{Heap, objects_in}

-- a grid of these edges between so many parts
pub record IsGridOf (parts : ℕ) (edges : List (ℕ × ℕ)) (rows : List (List Bool)) : Type 0 where
  pub nodes : length rows ≡ parts
  pub same : (part other : ℕ) → HasEdge rows part other ↔ HasPair edges part other

-- the heap of so many blocks for these shapes and sites, whose parts are those of a graph, without objects and with the next serial 1
pub record IsMade (shapes : List Shape) (site_parts : List ℕ) (graph : Condensed) (blocks : ℕ) (heap : Heap) : Type 0 where
  pub memory : heap.memory ≡ empty_parts blocks graph.parts
  pub shapes_are : heap.shapes ≡ shapes
  pub sites_are : heap.site_parts ≡ site_parts
  pub edges : IsGridOf graph.parts graph.edges heap.edges
  pub next : heap.next ≡ 1
  pub granted : heap.granted ≡ []
  pub objects : objects_in heap ≡ []
