-- Roots of a collection.
use Rattle.std.specs.Prelude.{◌≡◌, ◌<◌, ◌⊎◌, ℕ, Bool, List, [], Some, length, slice_get}
use Rattle.std.specs.List.{Contains}
use Rattle.cb_plain.specs.State.{Roots}
use Rattle.cb_frames.specs.Entries.{entries}
use Rattle.cb_heap.specs.Closed.{IsClosed}
use Rattle.cb_heap.specs.Reading.{seen}
use Rattle.cb_partheap.specs.Heaps.{Heap, index_in, objects_in}
use Rattle.cb_partheap.specs.Marks.{IsClosedSet, IsUnmarked}

-- each entry is null or one of these places
abbrev pub AreNamed : Roots → List ℕ → Type 0
AreNamed roots places = (i at : ℕ) → slice_get (entries roots) i ≡ Some at → (at ≡ 0) ⊎ Contains places at

-- no frame stands, and there are a static field, a constant, a class object and two boxes
pub record HasPlaces (roots : Roots) : Type 0 where
  pub frames : roots.frames ≡ []
  pub statics : 0 < length roots.statics
  pub constants : 0 < length roots.tables.constants
  pub classes : 0 < length roots.tables.classes
  pub booleans : 1 < length roots.tables.booleans

-- a heap and a set that can be collected from these roots
pub record MayCollect (heap : Heap) (roots : Roots) (set : List Bool) : Type 0 where
  pub set_is : IsClosedSet heap set
  pub closed : IsClosed (seen (index_in heap) (objects_in heap) roots)
  pub unmarked : IsUnmarked heap
