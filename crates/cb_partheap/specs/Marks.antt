-- Marks of the objects of a set of parts.
use Rattle.std.specs.Prelude.{◌≡◌, ◌+◌, ◌-◌, ◌<◌, ◌==◌, ◌||◌, ◌⊎◌, ◌↔◌, ℕ, Bool, true, false, not, List, Option, Some, None, cond, get_or, length, nat_lt}
use Rattle.std.specs.List.{range_with_len, sum_by}
use Rattle.cb_plain.specs.Reach.{IsReached}
use Rattle.cb_plain.specs.State.{words_of}
use Rattle.cb_heap.specs.Reading.{View}
use Rattle.cb_dag.specs.Graphs.{HasEdge}
use Rattle.cb_dag.specs.Marks.{marked}
use Rattle.cb_blocks.specs.Parted.{Parted}
use Rattle.cb_blocks.specs.Rows.{row, tabulated}
use Rattle.cb_partheap.specs.Heaps.{Heap, with_memory}
use Rattle.cb_partheap.specs.Spots.{IsSpot, Spot, serial_by, spot_where, words_by}
use Rattle.cb_partheap.specs.Words.{mark_at, site_at, size_at}

-- an object is marked
abbrev pub IsMarked : Parted → Spot → Type 0
IsMarked parts spot = 0 < mark_at (words_by parts spot) spot.start

-- no object is
pub record IsUnmarked (heap : Heap) : Type 0 where
  pub each : (spot : Spot) → IsSpot heap.memory spot → mark_at (words_by heap.memory spot) spot.start ≡ 0

-- a set of the parts of a heap, which has with a part each from which an edge leads there
pub record IsClosedSet (heap : Heap) (set : List Bool) : Type 0 where
  pub parts : length set ≡ length heap.memory.words
  pub closed : (part other : ℕ) → HasEdge heap.edges part other → marked set other ≡ true → marked set part ≡ true

-- those objects are marked that lie in a part of the set and are reached
pub record MarksReached (set : List Bool) (view : View) (heap : Heap) : Type 0 where
  pub each : (spot : Spot) → IsSpot heap.memory spot →
      IsMarked heap.memory spot ↔ ((marked set spot.part ≡ true) × IsReached view.roots view.objects (serial_by heap.memory spot))

-- a word holds the mark of an object in a part of the set, beside the site that it held
pub record HoldsMark (set : List Bool) (old new : Parted) (part i : ℕ) : Type 0 where
  pub spot : Spot
  pub here : IsSpot old spot
  pub same : spot.part ≡ part
  pub third : spot.start + 2 ≡ i
  pub member : marked set part ≡ true
  pub site : site_at (words_by new spot) spot.start ≡ site_at (words_by old spot) spot.start

-- the words of all parts are what they were but for such marks
pub record IsSameButMarks (set : List Bool) (old new : Parted) : Type 0 where
  pub blocks : new.blocks ≡ old.blocks
  pub rows : new.rows ≡ old.rows
  pub count : length new.words ≡ length old.words
  pub long : (part : ℕ) → length (row new.words part) ≡ length (row old.words part)
  pub words : (part i : ℕ) → (get_or (row new.words part) i 0 ≡ get_or (row old.words part) i 0) ⊎ HoldsMark set old new part i

-- and all else of the heap is
pub record IsRemarked (set : List Bool) (old new : Heap) : Type 0 where
  pub memory : IsSameButMarks set old.memory new.memory
  pub rest : new ≡ with_memory old new.memory

-- the words that marked objects take
abbrev pub words_if_marked : Parted → Option Spot → ℕ
words_if_marked parts None = 0
words_if_marked parts (Some spot) = cond (nat_lt 0 (mark_at (words_by parts spot) spot.start)) (words_of (size_at (words_by parts spot) spot.start)) 0

unfoldable pub words_marked : Heap → ℕ
words_marked heap =
    sum_by (λ n. words_if_marked heap.memory (spot_where heap.memory (λ spot. serial_by heap.memory spot == n + 1))) (range_with_len 0 (heap.next - 1))

-- which objects stay when those of the set go that aren't marked
abbrev pub stays_if : List Bool → Parted → Option Spot → Bool
stays_if set parts None = false
stays_if set parts (Some spot) = not (marked set spot.part) || nat_lt 0 (mark_at (words_by parts spot) spot.start)

unfoldable pub staying : List Bool → Heap → List Bool
staying set heap = tabulated (heap.next - 1) (λ n. stays_if set heap.memory (spot_where heap.memory (λ spot. serial_by heap.memory spot == n + 1)))
