-- Heaps whose objects are all named by places.
use Rattle.std.specs.Prelude.{◌≡◌, ℕ, Bool, true, false, List, Option, IsTrue, length}
use Rattle.std.specs.List.{All}
use Rattle.cb_plain.specs.State.{Content}
use Rattle.cb_heap.specs.Kept.{is_kept, is_number, is_reference}
use Rattle.cb_heap.specs.Reading.{serial_of}
use Rattle.cb_partheap.specs.Heaps.{Heap, index_in, objects_in}

-- an object lies at a place
abbrev pub IsKept : Heap → ℕ → Type 0
IsKept heap at = IsTrue (is_kept (objects_in heap) (serial_of (index_in heap) at))

-- objects lie at these places, and there are no more
pub record AllKept (heap : Heap) (places : List ℕ) : Type 0 where
  pub each : All (IsKept heap) places
  pub count : length (objects_in heap) ≡ length places

-- a word is there, and holds a reference, or a number
abbrev pub is_word : Bool → Option Content → Bool
is_word true = is_reference
is_word false = is_number
