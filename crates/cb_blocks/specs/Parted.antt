-- The words of a heap's parts, in blocks of 256.
use Rattle.std.specs.Prelude.{◌≡◌, ℕ, ◌+◌, ◌-◌, ◌*◌, ◌%◌, ◌<◌, ◌≤◌, ◌^◌, ◌++◌, [], get_or, length, List, replicate, slice_set, take}
use Rattle.std.specs.List.{sum_by}
use Rattle.cb_raw.specs.Words.{RawWords}
use Rattle.cb_blocks.specs.Holdings.{Held, IsHeld}
use Rattle.cb_blocks.specs.PagedRows.{IsLaid}
use Rattle.cb_blocks.specs.Rows.{IsApart, IsExtended, pages_for, place_in, row}

-- how many blocks there are; the numbers of those that each part has, in order; and the words of each part
pub record Parted : Type 0 where
  pub blocks : ℕ
  pub rows : List (List ℕ)
  pub words : List (List ℕ)

-- so many blocks for so many parts without words
abbrev pub empty_parts : ℕ → ℕ → Parted
empty_parts blocks parts = record { blocks = blocks; rows = replicate parts []; words = replicate parts [] }

-- how many blocks so many words need
abbrev pub blocks_for : ℕ → ℕ
blocks_for words = pages_for 256 words

-- how many blocks the words of all parts take
abbrev pub taken : List (List ℕ) → ℕ
taken words = sum_by (λ part. blocks_for (length part)) words

-- the parts with other words in one
abbrev pub with_words : Parted → ℕ → List ℕ → Parted
with_words parts part words = record { blocks = parts.blocks; rows = parts.rows; words = slice_set parts.words part words }

-- the place in the region where a word of a part stands
abbrev pub index_of : Parted → ℕ → ℕ → ℕ
index_of parts part i = place_in 256 (row parts.rows part) i

-- a word of a part stands at a place of the region
abbrev pub IsAt : Parted → ℕ → ℕ → ℕ → Type 0
IsAt parts part i index = (part < length parts.words) × (i < length (row parts.words part)) × (index ≡ index_of parts part i)

-- what holds of all parts: each has just the blocks that its words need, and no block stands twice
pub record IsParted (parts : Parted) : Type 0 where
  pub apart : IsApart parts.rows
  pub within : (part i : ℕ) → i < length (row parts.rows part) → get_or (row parts.rows part) i 0 < parts.blocks
  pub same : length parts.rows ≡ length parts.words
  pub exact : (part : ℕ) → part < length parts.words → length (row parts.rows part) ≡ blocks_for (length (row parts.words part))
  pub bound : parts.blocks ≤ 2 ^ 20

-- how the region, the stock of blocks and the counts of words of a heap belong together: what is behind the words of a part
-- in its last block is 0
pub record IsBlocks (region : RawWords) (blocks : Held) (used : List ℕ) : Type 0 where
  pub laid : IsLaid 256 blocks region.words used
  pub touched : region.touched ≡ blocks.fresh * 256
  pub clear : (part i : ℕ) → part < length used → get_or used part 0 ≤ i → i < length (row blocks.rows part) * 256 → get_or region.words (place_in 256 (row blocks.rows part) i) 0 ≡ 0
  pub longest : blocks.count ≤ blocks.longest

-- where in the region a part's words end: behind the last of them, or at 0 where there is none
pub record IsEnd (blocks : List ℕ) (used end : ℕ) : Type 0 where
  pub none : used ≡ 0 → end ≡ 0
  pub some : 0 < used → end ≡ place_in 256 blocks (used - 1) + 1

-- how many places there are behind such an end in the block of the last word
abbrev pub room_behind : ℕ → ℕ
room_behind end = 255 - (end + 255) % 256

pub record AreEnds (rows : List (List ℕ)) (used ends : List ℕ) : Type 0 where
  pub long : length ends ≡ length used
  pub each : (part : ℕ) → part < length used → IsEnd (row rows part) (get_or used part 0) (get_or ends part 0)

-- and where each part ends
pub record IsEnded (region : RawWords) (blocks : Held) (used ends : List ℕ) : Type 0 where
  pub blocks_are : IsBlocks region blocks used
  pub ends_are : AreEnds blocks.rows used ends

-- a word of a part stands at a place of the region, and so many behind it are words of the part too
abbrev pub IsReached : Parted → ℕ → ℕ → ℕ → ℕ → Type 0
IsReached parts part i index count = IsAt parts part i index × (i + count < length (row parts.words part))

-- so many words that hold 0 more in a part, in as many blocks more as they need
pub record IsGrown (old new : Parted) (part words : ℕ) : Type 0 where
  pub blocks : new.blocks ≡ old.blocks
  pub rows : IsExtended old.rows new.rows part (blocks_for (length (row old.words part) + words) - blocks_for (length (row old.words part)))
  pub words_are : new.words ≡ slice_set old.words part (row old.words part ++ replicate words 0)

-- these words more at the end of a part, in as many blocks more as they need
pub record IsGrownBy (old new : Parted) (part : ℕ) (more : List ℕ) : Type 0 where
  pub blocks : new.blocks ≡ old.blocks
  pub rows : IsExtended old.rows new.rows part (blocks_for (length (row old.words part) + length more) - blocks_for (length (row old.words part)))
  pub words_are : new.words ≡ slice_set old.words part (row old.words part ++ more)

-- so many words more need more blocks than are free
abbrev pub IsTooMuch : Parted → ℕ → ℕ → Type 0
IsTooMuch parts part words = parts.blocks - taken parts.words < blocks_for (length (row parts.words part) + words) - blocks_for (length (row parts.words part))

-- the parts with the first so many words in one, and the blocks that these need
abbrev pub with_fewer : Parted → ℕ → ℕ → Parted
with_fewer parts part used =
    record { blocks = parts.blocks; rows = slice_set parts.rows part (take (blocks_for used) (row parts.rows part)); words = slice_set parts.words part (take used (row parts.words part)) }

-- so many blocks more for a part, with 0 in their words
pub record IsOpened (region : RawWords) (blocks : Held) (region' : RawWords) (blocks' : Held) (part more : ℕ) : Type 0 where
  pub rows : IsExtended blocks.rows blocks'.rows part more
  pub count : blocks'.count ≡ blocks.count
  pub longest : blocks'.longest ≡ blocks.longest
  pub sound : IsHeld blocks'
  pub whole : length region'.words ≡ length region.words
  pub touched : region'.touched ≡ blocks'.fresh * 256
  pub kept : (other i : ℕ) → i < length (row blocks.rows other) * 256 → get_or region'.words (place_in 256 (row blocks.rows other) i) 0 ≡ get_or region.words (place_in 256 (row blocks.rows other) i) 0
  pub clear : (i : ℕ) → length (row blocks.rows part) * 256 ≤ i → i < length (row blocks'.rows part) * 256 → get_or region'.words (place_in 256 (row blocks'.rows part) i) 0 ≡ 0

-- 0 behind so many words of a part, and all else as before
pub record IsCleared (region region' : RawWords) (rows : List (List ℕ)) (part used : ℕ) : Type 0 where
  pub whole : length region'.words ≡ length region.words
  pub touched : region'.touched ≡ region.touched
  pub kept : (other i : ℕ) → i < length (row rows other) * 256 → (other ≡ part → i < used) → get_or region'.words (place_in 256 (row rows other) i) 0 ≡ get_or region.words (place_in 256 (row rows other) i) 0
  pub clear : (i : ℕ) → used ≤ i → i < length (row rows part) * 256 → get_or region'.words (place_in 256 (row rows part) i) 0 ≡ 0
