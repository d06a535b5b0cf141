-- Where the objects that stay of a set of parts come to lie.
use Rattle.std.specs.Prelude.{◌≡◌, ◌+◌, ◌<◌, ◌==◌, ◌⊎◌, ◌&&◌, ℕ, Bool, false, List, Option, Some, None, cond, length, nat_lt, slice_index, take, zero, suc}
use Rattle.cb_plain.specs.State.{words_of}
use Rattle.cb_dag.specs.Marks.{marked}
use Rattle.cb_blocks.specs.Parted.{Parted}
use Rattle.cb_partheap.specs.Heaps.{Heap, marks_at}
use Rattle.cb_partheap.specs.Marks.{IsMarked}
use Rattle.cb_partheap.specs.Spots.{Spot, place_of, spot_where, words_by}
use Rattle.cb_partheap.specs.Words.{is_whole_to, mark_at, missing, size_at}

-- an object begins at a place of words
pub record IsObject (words : List ℕ) (start : ℕ) : Type 0 where
  pub inside : start < length words
  pub whole : missing 0 (take start words) ≡ 0

-- what a count gives in all for the objects that begin before a place
abbrev pub begun : List ℕ → (ℕ → ℕ) → ℕ → ℕ
begun words count zero = 0
begun words count (suc place) = begun words count place + cond (is_whole_to words place) (count place) 0

-- the words of an object, if it is marked
abbrev pub words_if_kept : List ℕ → ℕ → ℕ
words_if_kept words start = cond (nat_lt 0 (mark_at words start)) (words_of (size_at words start)) 0

-- where an object comes to begin: behind the marked ones before it
abbrev pub slid_to : List ℕ → ℕ → ℕ
slid_to words start = begun words (words_if_kept words) start

-- in the parts of a set
abbrev pub slid : List Bool → Parted → Spot → Spot
slid set old spot = record { part = spot.part; start = cond (marked set spot.part) (slid_to (words_by old spot) spot.start) spot.start }

-- an object stays if it lies outside the set or is marked
abbrev pub Stays : List Bool → Parted → Spot → Type 0
Stays set old spot = (marked set spot.part ≡ false) ⊎ IsMarked old spot

-- what its place becomes; null stays null
abbrev place_if : List Bool → Parted → ℕ → Option Spot → ℕ
place_if set old at None = at
place_if set old at (Some spot) = place_of old (slid set old spot)

unfoldable pub place_after : List Bool → Parted → ℕ → ℕ
place_after set old at = place_if set old at (spot_where old (λ spot. place_of old spot == at))

-- the forwarding place in the header of an object; and what a word of contents becomes, which is a reference of a marked object or stays
abbrev pub mark_after : List Bool → Parted → Spot → ℕ
mark_after set old spot = cond (nat_lt 0 (mark_at (words_by old spot) spot.start)) (place_of old (slid set old spot)) 0

abbrev pub word_before : Parted → Spot → ℕ → ℕ
word_before old spot i = slice_index (words_by old spot) (spot.start + (3 + i))

abbrev pub rewrites : Heap → Spot → ℕ → Bool
rewrites heap spot i = nat_lt 0 (mark_at (words_by heap.memory spot) spot.start) && marks_at heap.shapes (words_by heap.memory spot) spot.start i

abbrev pub word_after : List Bool → Heap → Spot → ℕ → ℕ
word_after set heap spot i = cond (rewrites heap spot i) (place_after set heap.memory (word_before heap.memory spot i)) (word_before heap.memory spot i)
