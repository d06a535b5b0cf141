-- What the loops that are timed go over: arrays of numbers, and of references.
use Rattle.std.specs.Prelude.{◌≡◌, ◌<◌, ℕ, Bool, true, false, List, [], ◌∷◌, IsTrue}
use Rattle.cb_plain.specs.declared.shape.Shape.{Shape}
use Rattle.cb_plain.specs.declared.shape.Shape.TheVariants as shapes
use Rattle.cb_plain.specs.Requests.{words_at}
use Rattle.cb_heap.specs.Kept.{content_at}
use Rattle.cb_heap.specs.Reading.{serial_of}
use Rattle.cb_heap.specs.Storage.{Storage}
use Rattle.cb_partheap.specs.Heaps.{Heap, objects_in}
use Rattle.cb_partheap_tests.specs.Tried.{is_word}

-- the kinds: arrays of numbers, and arrays of references
abbrev pub array_kinds : List Shape
array_kinds = shapes.Elements false ∷ shapes.Elements true ∷ []

abbrev pub kind_of : Bool → ℕ
kind_of false = 0
kind_of true = 1

-- the object at a place has so many words, each a reference, or each a number
pub record HasWords {Facts : Type 0} (store : Storage Facts) (mark : Bool) (size at : ℕ) : Type 0 where
  pub each : (i : ℕ) → i < size → IsTrue (is_word mark (content_at store.kept (serial_of store.index at) i))

-- what such objects have is still there
abbrev pub Stays : {Facts : Type 0} → (old new : Storage Facts) → Type 0
Stays old new = (mark : Bool) → (size at : ℕ) → HasWords old mark size at → HasWords new mark size at

-- a heap without objects for these kinds, with room for so many words at the site 0
pub record IsReady (heap : Heap) (words : ℕ) : Type 0 where
  pub shapes : heap.shapes ≡ array_kinds
  pub room : words_at heap.granted 0 ≡ words
  pub objects : objects_in heap ≡ []
