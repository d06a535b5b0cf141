-- What holds of every heap in parts.
use Rattle.std.specs.Prelude.{◌≡◌, ◌*◌, ◌/◌, ◌^◌, ◌<◌, ◌≤◌, ◌+◌, ◌⊎◌, ℕ, true, List, [], IsTrue, length, slice_index}
use Rattle.cb_plain.specs.declared.want.Want.{Want}
use Rattle.cb_plain.specs.Requests.{words_at}
use Rattle.cb_heap.specs.Occupancy.{blocks, wanted}
use Rattle.cb_heap.specs.Shaped.{has_size}
use Rattle.cb_blocks.specs.Parted.{IsParted, Parted}
use Rattle.cb_blocks.specs.Rows.{row}
use Rattle.cb_partheap.specs.Heaps.{Heap, marks_at, may_refer, part_of}
use Rattle.cb_partheap.specs.Spots.{IsSpot, Spot, place_of, serial_by, words_by}
use Rattle.cb_partheap.specs.Words.{kind_at, missing, site_at, size_at}

-- how many blocks the objects take, with so much more
abbrev pub blocks_of_all : Parted → List ℕ → List Want → ℕ
blocks_of_all parts site_parts wants = blocks (length parts.words) (λ part. length (row parts.words part) + wanted (part_of site_parts) wants part)

abbrev pub blocks_with : Heap → List Want → ℕ
blocks_with heap wants = blocks_of_all heap.memory heap.site_parts wants

-- an object stands in the part of its site, has a length that its kind may have, and a serial that was given
pub record IsPlaced (heap : Heap) (spot : Spot) : Type 0 where
  pub site : site_at (words_by heap.memory spot) spot.start < length heap.site_parts
  pub here : part_of heap.site_parts (site_at (words_by heap.memory spot) spot.start) ≡ spot.part
  pub shaped : IsTrue (has_size heap.shapes (kind_at (words_by heap.memory spot) spot.start) (size_at (words_by heap.memory spot) spot.start))
  pub low : 0 < serial_by heap.memory spot
  pub high : serial_by heap.memory spot < heap.next

-- a reference from a part is null, or leads to an object of the part or along an edge
abbrev pub MayHold : Heap → ℕ → ℕ → Type 0
MayHold heap part word =
    (word ≡ 0) ⊎ ((spot : Spot) × IsSpot heap.memory spot × (place_of heap.memory spot ≡ word) × (may_refer heap.edges part spot.part ≡ true))

-- the words of each part are whole objects one behind the other, no serial is there twice, references lead where they may, and with what is
-- granted there is room for all. Nothing waits to be marked, and a third of all words can
pub record IsHeap (heap : Heap) : Type 0 where
  pub parted : IsParted heap.memory
  pub whole : (part : ℕ) → part < length heap.memory.words → missing 0 (row heap.memory.words part) ≡ 0
  pub placed : (spot : Spot) → IsSpot heap.memory spot → IsPlaced heap spot
  pub once : (one other : Spot) → IsSpot heap.memory one → IsSpot heap.memory other → serial_by heap.memory one ≡ serial_by heap.memory other → one ≡ other
  pub refers : (spot : Spot) → (i : ℕ) → IsSpot heap.memory spot → i < size_at (words_by heap.memory spot) spot.start → marks_at heap.shapes (words_by heap.memory spot) spot.start i ≡ true →
      MayHold heap spot.part (slice_index (words_by heap.memory spot) (spot.start + (3 + i)))
  pub some : 0 < heap.next
  pub sites : length heap.site_parts ≤ 2 ^ 14
  pub site_within : (site : ℕ) → site < length heap.site_parts → part_of heap.site_parts site < length heap.memory.words
  pub few_parts : length heap.memory.words ≤ 2 ^ 12
  pub grid : length heap.edges ≡ length heap.memory.words
  pub room : blocks_with heap heap.granted ≤ heap.memory.blocks
  pub known : (site : ℕ) → 0 < words_at heap.granted site → site < length heap.site_parts
  pub idle : heap.grey.places ≡ []
  pub ready : heap.memory.blocks * 256 / 3 ≤ heap.grey.room
