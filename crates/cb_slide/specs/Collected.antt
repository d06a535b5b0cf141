-- What marking and sliding leave together.
use Rattle.std.specs.Prelude.{◌≡◌, Bool, List}
use Rattle.cb_plain.specs.State.{Roots}
use Rattle.cb_heap.specs.Closed.{Collects}
use Rattle.cb_heap.specs.Kept.{keep}
use Rattle.cb_heap.specs.Reading.{View, read_roots, seen}
use Rattle.cb_heap.specs.Taking.{IsTaken, left_of}
use Rattle.cb_partheap.specs.Heaps.{Heap, index_in, objects_in}
use Rattle.cb_partheap.specs.MarkLaws.{sites_of}
use Rattle.cb_partheap.specs.Marks.{IsRemarked, staying}

-- what a heap and roots are seen as
abbrev pub view_of : Heap → Roots → View
view_of heap roots = seen (index_in heap) (objects_in heap) roots

-- what is left is what a take of the sites of a set leaves: roots and objects as they were, but for objects of the set that aren't reached, and nothing
-- that is left names one that went
pub record IsCollected (set : List Bool) (old new : Heap) (roots roots' : Roots) : Type 0 where
  pub stays : List Bool
  pub taken : IsTaken (sites_of old set) (view_of old roots) stays
  pub collects : Collects (view_of old roots) (view_of new roots')
  pub left : view_of new roots' ≡ left_of (view_of old roots) stays

-- what marking says of a heap before it and after it
pub record IsMarkedFor (set : List Bool) (old marked : Heap) : Type 0 where
  pub rest : IsRemarked set old marked
  pub kept : objects_in marked ≡ objects_in old
  pub places : index_in marked ≡ index_in old

-- and sliding of the one after it, and the heap that it leaves
pub record IsSlidFor (set : List Bool) (marked new : Heap) (roots roots' : Roots) : Type 0 where
  pub taken : IsTaken (sites_of marked set) (view_of marked roots) (staying set marked)
  pub collects : Collects (view_of marked roots) (view_of new roots')
  pub objects : objects_in new ≡ keep (staying set marked) (objects_in marked)
  pub roots_are : read_roots (index_in new) roots' ≡ read_roots (index_in marked) roots

abbrev pub BothCollect : Type 0
BothCollect = (set : List Bool) → (old marked new : Heap) → (roots roots' : Roots) → IsMarkedFor set old marked → IsSlidFor set marked new roots roots' → IsCollected set old new roots roots'
