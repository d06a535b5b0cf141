-- What marks say of a collection.
use Rattle.std.specs.Prelude.{◌≡◌, ◌<◌, ◌≤◌, ◌^◌, ℕ, Bool, List, Option, cond, length}
use Rattle.std.specs.List.{range_with_len, sum_by}
use Rattle.cb_plain.specs.declared.shape.Shape.{Shape}
use Rattle.cb_plain.specs.declared.want.Want.{Want}
use Rattle.cb_plain.specs.Requests.{words_at}
use Rattle.cb_plain.specs.State.{Object, words_of}
use Rattle.cb_dag.specs.Marks.{marked}
use Rattle.cb_dag.specs.Parts.{Condensed}
use Rattle.cb_heap.specs.Follows.{TakesPredecessors}
use Rattle.cb_heap.specs.Kept.{keep}
use Rattle.cb_heap.specs.Occupancy.{used}
use Rattle.cb_heap.specs.Reading.{View}
use Rattle.cb_heap.specs.Taking.{IsTaken}
use Rattle.cb_blocks.specs.Parted.{Parted}
use Rattle.cb_partheap.specs.Added.{IsAdded}
use Rattle.cb_partheap.specs.Heaps.{Heap, objects_in, part_of, settings_in, with_granted, with_object, with_word}
use Rattle.cb_partheap.specs.Made.{IsMade}
use Rattle.cb_partheap.specs.Spots.{IsSpot, Spot, words_by}
use Rattle.cb_partheap.specs.Whole.{IsHeap}
use Rattle.cb_partheap.specs.Words.{blank_words, size_at}
use Rattle.cb_partheap.specs.Marks.{IsClosedSet, IsUnmarked, MarksReached, staying, words_marked}

-- the sites whose objects lie in the parts of a set
abbrev pub sites_of : Heap → List Bool → ℕ → Bool
sites_of heap set site = marked set (part_of heap.site_parts site)

-- the words of these objects in the parts of a set
abbrev pub words_in_set : Heap → List Bool → List (Option Object) → ℕ
words_in_set heap set objects = sum_by (λ part. cond (marked set part) (used (part_of heap.site_parts) objects part) 0) (range_with_len 0 (length heap.memory.words))

-- a closed set has with an object all that may refer to it; and where what is reached of the set is marked, what stays is a take of its sites, and
-- what is marked has no more words than what stays in the set
pub record MarksTake : Type 0 where
  pub predecessors : (heap : Heap) → (set : List Bool) → IsClosedSet heap set → TakesPredecessors (settings_in heap).allows (sites_of heap set)
  pub taken : (heap : Heap) → (set : List Bool) → (view : View) → IsHeap heap → view.objects ≡ objects_in heap → MarksReached set view heap → IsTaken (sites_of heap set) view (staying set heap)
  pub words : (heap : Heap) → (set : List Bool) → (view : View) → IsHeap heap → MarksReached set view heap → words_marked heap ≤ words_in_set heap set (keep (staying set heap) (objects_in heap))

-- no object is marked of a heap that is made, and none is after room was granted, an object placed, or a word of contents written
pub record StayUnmarked : Type 0 where
  pub made : (shapes : List Shape) → (site_parts : List ℕ) → (graph : Condensed) → (blocks : ℕ) → (heap : Heap) → IsMade shapes site_parts graph blocks heap → IsUnmarked heap
  pub granted : (heap : Heap) → (wants : List Want) → IsUnmarked heap → IsUnmarked (with_granted heap wants)
  pub placed : (heap : Heap) → (memory : Parted) → (site kind size : ℕ) → IsHeap heap → IsUnmarked heap → words_of size ≤ words_at heap.granted site → kind < 2 ^ 32 →
      IsAdded heap.memory memory (part_of heap.site_parts site) (blank_words kind size heap.next site) → IsUnmarked (with_object heap memory site size)
  pub written : (heap : Heap) → (spot : Spot) → (i word : ℕ) → IsHeap heap → IsUnmarked heap → IsSpot heap.memory spot → i < size_at (words_by heap.memory spot) spot.start → IsUnmarked (with_word heap spot i word)
