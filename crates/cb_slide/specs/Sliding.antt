-- What holds while the parts of a set are slid.
use Rattle.std.specs.Prelude.{◌≡◌, ◌+◌, ◌-◌, ◌*◌, ◌^◌, ◌<◌, ◌≤◌, ◌⊎◌, ℕ, Bool, true, false, List, cond, length, slice_index, take, zero, suc}
use Rattle.cb_plain.specs.declared.shape.Shape.{Shape}
use Rattle.cb_plain.specs.State.{Roots}
use Rattle.cb_frames.specs.Entries.{entries}
use Rattle.cb_heap.specs.Closed.{IsClosed}
use Rattle.cb_dag.specs.Marks.{marked}
use Rattle.cb_blocks.specs.Parted.{IsParted, Parted, index_of}
use Rattle.cb_blocks.specs.Rows.{place_in, row}
use Rattle.cb_partheap.specs.Heaps.{Heap, index_in, with_memory}
use Rattle.cb_partheap.specs.Marks.{IsClosedSet, IsMarked, MarksReached}
use Rattle.cb_partheap.specs.Spots.{IsSpot, Spot, place_of, words_by}
use Rattle.cb_partheap.specs.Whole.{IsHeap}
use Rattle.cb_partheap.specs.Words.{mark_at, missing, site_at, size_at}
use Rattle.cb_partheap.proofs.Laws.{HasContents, IsAlike, view_in}
use Rattle.cb_slide.specs.Compact.{IsCompact, IsMoving}
use Rattle.cb_slide.specs.Slid.{mark_after, place_after, slid_to, word_after, word_before}

-- what sliding is given: the heap before, the roots, and the set
pub record Given : Type 0 where
  pub heap : Heap
  pub roots : Roots
  pub set : List Bool

pub record IsGiven (given : Given) : Type 0 where
  pub heap : IsHeap given.heap
  pub set : IsClosedSet given.heap given.set
  pub view : IsClosed (view_in given.heap given.roots)
  pub marks : MarksReached given.set (view_in given.heap given.roots) given.heap

-- the words of the parts of the set, of so many parts
abbrev pub words_before : Given → ℕ → ℕ
words_before given zero = 0
words_before given (suc count) = words_before given count + cond (marked given.set count) (length (row given.heap.memory.words count)) 0

-- a place of a part comes before another, of the same part or one behind
abbrev pub IsBefore : (other at part place : ℕ) → Type 0
IsBefore other at part place = (other < part) ⊎ ((other ≡ part) × (at < place))

-- all objects before a place have their forwarding places in place of marks, and all else is as it was
pub record ForwardedTo (given : Given) (memory : Parted) (part place : ℕ) : Type 0 where
  pub given_is : IsGiven given
  pub alike : IsAlike given.heap.memory memory
  pub contents : HasContents given.heap.memory memory
  pub outside : (other : ℕ) → marked given.set other ≡ false → row memory.words other ≡ row given.heap.memory.words other
  pub done : (spot : Spot) → IsSpot given.heap.memory spot → IsBefore spot.part spot.start part place → mark_at (words_by memory spot) spot.start ≡ mark_after given.set given.heap.memory spot
  pub rest : (spot : Spot) → IsSpot given.heap.memory spot → (IsBefore spot.part spot.start part place → ⊥) → mark_at (words_by memory spot) spot.start ≡ mark_at (words_by given.heap.memory spot) spot.start

-- an object of a part begins at a place, or all its objects end there
pub record IsEdge (given : Given) (part place : ℕ) : Type 0 where
  pub inside : place ≤ length (row given.heap.memory.words part)
  pub whole : missing 0 (take place (row given.heap.memory.words part)) ≡ 0

-- a part of the set
pub record IsIn (given : Given) (part : ℕ) : Type 0 where
  pub below : part < length given.heap.memory.words
  pub member : marked given.set part ≡ true

-- and what comes next begins behind the marked objects before it
pub record ForwardedScan (given : Given) (memory : Parted) (part scan free : ℕ) : Type 0 where
  pub so_far : ForwardedTo given memory part scan
  pub edge : IsEdge given part scan
  pub free_is : free ≡ slid_to (row given.heap.memory.words part) scan

-- all objects have their forwarding places
pub record IsForwarded (given : Given) (memory : Parted) : Type 0 where
  pub given_is : IsGiven given
  pub alike : IsAlike given.heap.memory memory
  pub outside : (other : ℕ) → marked given.set other ≡ false → row memory.words other ≡ row given.heap.memory.words other
  pub marks : (spot : Spot) → IsSpot given.heap.memory spot → mark_at (words_by memory spot) spot.start ≡ mark_after given.set given.heap.memory spot

-- the first so many references of the roots are rewritten
pub record RootsTo (given : Given) (now : Roots) (count : ℕ) : Type 0 where
  pub done : (k : ℕ) → k < count → slice_index (entries now) k ≡ place_after given.set given.heap.memory (slice_index (entries given.roots) k)
  pub rest : (k : ℕ) → count ≤ k → slice_index (entries now) k ≡ slice_index (entries given.roots) k
  pub long : length (entries now) ≡ length (entries given.roots)

-- and the references before a place are rewritten
pub record RewrittenTo (given : Given) (memory : Parted) (part place : ℕ) : Type 0 where
  pub forwarded : IsForwarded given memory
  pub done : (spot : Spot) → (i : ℕ) → IsSpot given.heap.memory spot → i < size_at (words_by given.heap.memory spot) spot.start → IsBefore spot.part (spot.start + (3 + i)) part place → word_before memory spot i ≡ word_after given.set given.heap spot i
  pub rest : (spot : Spot) → (i : ℕ) → IsSpot given.heap.memory spot → i < size_at (words_by given.heap.memory spot) spot.start → (IsBefore spot.part (spot.start + (3 + i)) part place → ⊥) → word_before memory spot i ≡ word_before given.heap.memory spot i

pub record RewrittenScan (given : Given) (memory : Parted) (part scan : ℕ) : Type 0 where
  pub so_far : RewrittenTo given memory part scan
  pub edge : IsEdge given part scan

-- an object whose references are rewritten
pub record Rewrites (given : Given) (memory : Parted) (shapes : List Shape) (set : List Bool) (at size : ℕ) (spot : Spot) : Type 0 where
  pub so_far : RewrittenTo given memory spot.part (spot.start + 3)
  pub here : IsSpot given.heap.memory spot
  pub place : place_of given.heap.memory spot ≡ at
  pub kept : IsMarked given.heap.memory spot
  pub size_is : size ≡ size_at (words_by given.heap.memory spot) spot.start
  pub set_is : set ≡ given.set
  pub shapes_are : shapes ≡ given.heap.shapes

-- all words of the set are written, but nothing was moved
pub record IsRewritten (given : Given) (memory : Parted) : Type 0 where
  pub forwarded : IsForwarded given memory
  pub words : (spot : Spot) → (i : ℕ) → IsSpot given.heap.memory spot → i < size_at (words_by given.heap.memory spot) spot.start → word_before memory spot i ≡ word_after given.set given.heap spot i

-- only the words of one part are others
pub record IsOnly (old new : Parted) (part : ℕ) : Type 0 where
  pub blocks : new.blocks ≡ old.blocks
  pub rows : new.rows ≡ old.rows
  pub count : length new.words ≡ length old.words
  pub others : (other : ℕ) → (other ≡ part → ⊥) → row new.words other ≡ row old.words other

-- the parts of the set before one have just their marked objects, at the front
pub record SlidTo (given : Given) (before memory : Parted) (part : ℕ) : Type 0 where
  pub before_is : IsRewritten given before
  pub sound : IsParted memory
  pub blocks : memory.blocks ≡ given.heap.memory.blocks
  pub count : length memory.words ≡ length given.heap.memory.words
  pub index : (other i : ℕ) → other < length given.heap.memory.words → i < length (row memory.words other) → index_of memory other i ≡ index_of given.heap.memory other i
  pub done : (other : ℕ) → other < part → other < length given.heap.memory.words → marked given.set other ≡ true → IsCompact (row given.heap.memory.words other) (row before.words other) (row memory.words other)
  pub rest : (other : ℕ) → ((other < part) × (marked given.set other ≡ true) → ⊥) → row memory.words other ≡ row before.words other

-- one of them is on the way
pub record CompactScan (given : Given) (before start memory : Parted) (part free first scan : ℕ) : Type 0 where
  pub moving : IsMoving (row given.heap.memory.words part) (row before.words part) (row memory.words part) free first scan
  pub only : IsOnly start memory part

-- nothing of a heap is another but the words of parts and which blocks they have
pub record HasOtherWords (old new : Heap) : Type 0 where
  pub blocks : new.memory.blocks ≡ old.memory.blocks
  pub parts : length new.memory.words ≡ length old.memory.words
  pub rest : new ≡ with_memory old new.memory

-- an object has the place that it had, and is found there
pub record IsLeft (old new : Heap) (spot : Spot) : Type 0 where
  pub here : IsSpot new.memory spot
  pub place : place_of new.memory spot ≡ place_of old.memory spot
  pub same : index_in new (place_of old.memory spot) ≡ index_in old (place_of old.memory spot)

-- an object stands at a place of words, without its mark, and its references lead where objects are now
pub record IsCarried (given : Given) (words : List ℕ) (start : ℕ) (spot : Spot) : Type 0 where
  pub first : slice_index words start ≡ slice_index (words_by given.heap.memory spot) spot.start
  pub second : slice_index words (start + 1) ≡ slice_index (words_by given.heap.memory spot) (spot.start + 1)
  pub third : slice_index words (start + 2) ≡ site_at (words_by given.heap.memory spot) spot.start
  pub contents : (i : ℕ) → i < size_at (words_by given.heap.memory spot) spot.start → slice_index words (start + (3 + i)) ≡ word_after given.set given.heap spot i

-- all parts of the set have just their marked objects, whose references lead where objects are now, and nothing else is another
pub record IsSlid (given : Given) (memory : Parted) : Type 0 where
  pub sound : IsParted memory
  pub blocks : memory.blocks ≡ given.heap.memory.blocks
  pub count : length memory.words ≡ length given.heap.memory.words
  pub index : (other i : ℕ) → other < length given.heap.memory.words → i < length (row memory.words other) → index_of memory other i ≡ index_of given.heap.memory other i
  pub outside : (other : ℕ) → marked given.set other ≡ false → row memory.words other ≡ row given.heap.memory.words other
  pub long : (other : ℕ) → IsIn given other → length (row memory.words other) ≡ slid_to (row given.heap.memory.words other) (length (row given.heap.memory.words other))
  pub carried : (spot : Spot) → IsSpot given.heap.memory spot → marked given.set spot.part ≡ true → IsMarked given.heap.memory spot →
      IsCarried given (row memory.words spot.part) (slid_to (words_by given.heap.memory spot) spot.start) spot

-- the place is told of what ends at a place of a part, and how many words it has. Where the part has no block nothing is told
pub record EndsAt (rows : List (List ℕ)) (part place at count : ℕ) : Type 0 where
  pub behind : count ≤ place
  pub there : 0 < length (row rows part) → at ≡ part * 2 ^ 29 + place_in 256 (row rows part) (place - count) + 1
