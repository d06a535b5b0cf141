-- What holds while marked objects wait to be looked at.
use Rattle.std.specs.Prelude.{◌≡◌, ◌+◌, ◌<◌, ◌≤◌, ◌*◌, ◌^◌, ◌==◌, ◌⊎◌, ℕ, Bool, true, false, List, [], ◌∷◌, Option, Some, None, length, slice_get, slice_index, slice_set}
use Rattle.std.specs.List.{sum_by}
use Rattle.cb_plain.specs.Reach.{IsReached}
use Rattle.cb_plain.specs.State.{Roots, words_of}
use Rattle.cb_frames.specs.Entries.{entries}
use Rattle.cb_heap.specs.Closed.{IsClosed}
use Rattle.cb_heap.specs.Reading.{View, seen}
use Rattle.cb_dag.specs.Marks.{marked}
use Rattle.cb_blocks.specs.Parted.{Parted, with_words}
use Rattle.cb_plain.specs.declared.shape.Shape.{Shape}
use Rattle.cb_partheap.specs.Headers.{IsHeader}
use Rattle.cb_partheap.specs.Heaps.{Heap, index_in, marks_at, objects_in, with_memory}
use Rattle.cb_partheap.specs.Spots.{IsSpot, Spot, place_of, serial_by, spot_where, words_by}
use Rattle.cb_partheap.specs.Stacks.{Stacked, pushed}
use Rattle.cb_partheap.specs.Whole.{IsHeap}
use Rattle.cb_partheap.specs.Words.{mark_at, site_at, size_at}
use Rattle.cb_partheap.proofs.Laws.{HasContents, IsAlike}
use Rattle.cb_partheap.specs.Marks.{IsClosedSet, IsMarked, IsSameButMarks, IsUnmarked, words_marked}

-- an object of the set that wasn't marked is, and waits in front of all others
pub record IsFirstFound (set : List Bool) (old new : Parted) (grey grey' : Stacked) (to : ℕ) (spot : Spot) : Type 0 where
  pub member : marked set spot.part ≡ true
  pub unmarked : mark_at (words_by old spot) spot.start ≡ 0
  pub memory : new ≡ with_words old spot.part (slice_set (words_by old spot) (spot.start + 2) (site_at (words_by old spot) spot.start + 1 * 2 ^ 14))
  pub waits : grey' ≡ pushed to grey

-- or nothing changes, since it lies outside the set or is marked
pub record IsLeft (set : List Bool) (old new : Parted) (grey grey' : Stacked) (spot : Spot) : Type 0 where
  pub why : (marked set spot.part ≡ false) ⊎ IsMarked old spot
  pub memory : new ≡ old
  pub waits : grey' ≡ grey

abbrev pub IsLookedUp : List Bool → (old new : Parted) → (grey grey' : Stacked) → ℕ → Spot → Type 0
IsLookedUp set old new grey grey' to spot = IsLeft set old new grey grey' spot ⊎ IsFirstFound set old new grey grey' to spot

-- an object stands at a place, and there is room for it where it isn't marked
pub record MayBeLookedUp (memory : Parted) (grey : Stacked) (to : ℕ) : Type 0 where
  pub spot : Spot
  pub header : IsHeader memory to spot
  pub room : mark_at (words_by memory spot) spot.start ≡ 0 → length grey.places < grey.room

-- what a marking is given: the heap before, the roots, and the set
pub record Given : Type 0 where
  pub heap : Heap
  pub roots : Roots
  pub set : List Bool

abbrev pub view_of : Given → View
view_of given = seen (index_in given.heap) (objects_in given.heap) given.roots

abbrev pub IsReachedAt : Given → Spot → Type 0
IsReachedAt given spot = IsReached (view_of given).roots (view_of given).objects (serial_by given.heap.memory spot)

pub record IsGiven (given : Given) : Type 0 where
  pub heap : IsHeap given.heap
  pub set : IsClosedSet given.heap given.set
  pub view : IsClosed (view_of given)
  pub unmarked : IsUnmarked given.heap

-- an object at a place of these, which wait
abbrev pub IsAmong : List ℕ → ℕ → Type 0
IsAmong [] at = ⊥
IsAmong (first ∷ waiting) at = (first ≡ at) ⊎ IsAmong waiting at

-- and the words that they take
abbrev pub words_if : Parted → Option Spot → ℕ
words_if parts None = 0
words_if parts (Some spot) = words_of (size_at (words_by parts spot) spot.start)

abbrev pub words_there : Parted → ℕ → ℕ
words_there parts at = words_if parts (spot_where parts (λ spot. place_of parts spot == at))

-- what lies at a place, if anything does, is marked where it is in the set; and so is all to which an object refers
pub record IsLooked (given : Given) (memory : Parted) (to : ℕ) : Type 0 where
  pub each : (spot : Spot) → IsSpot given.heap.memory spot → place_of given.heap.memory spot ≡ to → marked given.set spot.part ≡ true → IsMarked memory spot

pub record IsDone (given : Given) (memory : Parted) (spot : Spot) : Type 0 where
  pub each : (i : ℕ) → i < size_at (words_by given.heap.memory spot) spot.start → marks_at given.heap.shapes (words_by given.heap.memory spot) spot.start i ≡ true →
      IsLooked given memory (slice_index (words_by given.heap.memory spot) (spot.start + (3 + i)))

abbrev pub AllLooked : Given → Parted → List ℕ → Type 0
AllLooked given memory references = (i to : ℕ) → slice_get references i ≡ Some to → IsLooked given memory to

-- what waits is marked
pub record Waits (given : Given) (memory : Parted) (at : ℕ) : Type 0 where
  pub spot : Spot
  pub here : IsSpot given.heap.memory spot
  pub place : place_of given.heap.memory spot ≡ at
  pub marked_is : IsMarked memory spot

-- what is marked is in the set and reached, and waits or is done with; and the words of what was looked at and of what waits are those of what
-- is marked
pub record IsMarking (given : Given) (memory : Parted) (waiting : List ℕ) (looked : ℕ) : Type 0 where
  pub given_is : IsGiven given
  pub same : IsSameButMarks given.set given.heap.memory memory
  pub alike : IsAlike given.heap.memory memory
  pub contents : HasContents given.heap.memory memory
  pub only : (spot : Spot) → IsSpot given.heap.memory spot → IsMarked memory spot → (marked given.set spot.part ≡ true) × IsReachedAt given spot
  pub waits : (at : ℕ) → IsAmong waiting at → Waits given memory at
  pub done : (spot : Spot) → IsSpot given.heap.memory spot → IsMarked memory spot → IsAmong waiting (place_of given.heap.memory spot) ⊎ IsDone given memory spot
  pub words : words_marked (with_memory given.heap memory) ≡ looked + sum_by (words_there given.heap.memory) waiting

-- with the heap's stack and set
pub record StandsAt (given : Given) (memory : Parted) (grey : Stacked) (set : List Bool) (waiting : List ℕ) (looked : ℕ) : Type 0 where
  pub is : IsMarking given memory waiting looked
  pub set_is : set ≡ given.set
  pub room : grey.room ≡ given.heap.grey.room

-- where marking begins, where it looks at an object and has looked at it, and where it ends
pub record Begins (given : Given) (memory : Parted) (grey : Stacked) (roots : Roots) (set : List Bool) : Type 0 where
  pub given_is : IsGiven given
  pub memory_is : memory ≡ given.heap.memory
  pub grey_is : grey ≡ given.heap.grey
  pub roots_are : roots ≡ given.roots
  pub set_is : set ≡ given.set

pub record Looks (given : Given) (memory : Parted) (shapes : List Shape) (grey : Stacked) (set : List Bool) (at looked : ℕ) : Type 0 where
  pub stands : StandsAt given memory grey set (at ∷ grey.places) looked
  pub shapes_are : shapes ≡ given.heap.shapes

-- whatever was looked at before stays so
abbrev pub StaysLooked : Given → (old new : Parted) → Type 0
StaysLooked given old new = (spot : Spot) → IsSpot given.heap.memory spot → IsMarked old spot → IsMarked new spot

pub record LookedAt (given : Given) (old new : Parted) (grey : Stacked) (set : List Bool) (at looked steps steps' : ℕ) : Type 0 where
  pub stands : StandsAt given new grey set grey.places (looked + words_there given.heap.memory at)
  pub stays : StaysLooked given old new
  pub some : steps < steps'
  pub counted : steps' ≤ steps + words_there given.heap.memory at

pub record Ends (given : Given) (old new : Parted) (grey : Stacked) (set : List Bool) (steps steps' : ℕ) : Type 0 where
  pub stands : StandsAt given new grey set [] (words_marked (with_memory given.heap new))
  pub stays : StaysLooked given old new
  pub none : grey.places ≡ []
  pub counted : steps' ≤ steps + words_marked (with_memory given.heap new)

-- so far: the first so many references of the roots were looked at; all that waited and doesn't any more was; or the first so many words of an object
pub record RootsTo (given : Given) (memory : Parted) (grey : Stacked) (set : List Bool) (i : ℕ) : Type 0 where
  pub stands : StandsAt given memory grey set grey.places 0
  pub looked : (k to : ℕ) → k < i → slice_get (entries given.roots) k ≡ Some to → IsLooked given memory to

pub record BehindTo (given : Given) (old memory : Parted) (grey : Stacked) (set : List Bool) (steps steps' : ℕ) : Type 0 where
  pub looked : ℕ
  pub stands : StandsAt given memory grey set grey.places looked
  pub stays : StaysLooked given old memory
  pub counted : steps' ≤ steps + looked

pub record ObjectTo (given : Given) (old memory : Parted) (grey : Stacked) (set : List Bool) (at looked i : ℕ) : Type 0 where
  pub stands : StandsAt given memory grey set (at ∷ grey.places) looked
  pub stays : StaysLooked given old memory
  pub done : (spot : Spot) → (k : ℕ) → IsSpot given.heap.memory spot → place_of given.heap.memory spot ≡ at → k < i → marks_at given.heap.shapes (words_by given.heap.memory spot) spot.start k ≡ true →
      IsLooked given memory (slice_index (words_by given.heap.memory spot) (spot.start + (3 + k)))
