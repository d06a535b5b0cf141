-- What the tests place.
use Rattle.std.specs.Prelude.{◌≡◌, true, false, List, [], ◌∷◌, Option, length}
use Rattle.cb_plain.specs.declared.shape.Shape.{Shape}
use Rattle.cb_plain.specs.declared.shape.Shape.TheVariants as shapes
use Rattle.cb_plain.specs.State.{Object}
use Rattle.cb_heap.specs.Text.{with_text}
use Rattle.cb_partheap.specs.Heaps.{Heap, objects_in}

-- strings of one word, and arrays of numbers
abbrev pub text_kinds : List Shape
text_kinds = shapes.Fields (true ∷ []) ∷ shapes.Elements false ∷ []

-- a heap for these at eight sites, without objects
pub record IsEmpty (heap : Heap) : Type 0 where
  pub shapes : heap.shapes ≡ text_kinds
  pub sites : length heap.site_parts ≡ 8
  pub objects : objects_in heap ≡ []

-- a string of two units in a store without objects
abbrev pub pair : List (Option Object)
pair = with_text (record { site = 7; kind = 0; characters = 7; array = 1 }) (104 ∷ 105 ∷ []) []
