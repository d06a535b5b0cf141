-- Headers of objects at places, whatever else the words of a heap are.
use Rattle.std.specs.Prelude.{◌≡◌, ◌+◌, ◌<◌, ◌≤◌, ℕ, List, IsTrue, length}
use Rattle.cb_plain.specs.declared.shape.Shape.{Shape}
use Rattle.cb_plain.specs.State.{words_of}
use Rattle.cb_heap.specs.Shaped.{has_size}
use Rattle.cb_blocks.specs.Parted.{IsParted, Parted}
use Rattle.cb_partheap.specs.Spots.{Spot, place_of, words_by}
use Rattle.cb_partheap.specs.Words.{kind_at, size_at}

-- the header of an object stands at a place, with all words of the object in the part
pub record IsHeader (parts : Parted) (at : ℕ) (spot : Spot) : Type 0 where
  pub sound : IsParted parts
  pub part : spot.part < length parts.words
  pub whole : spot.start + words_of (size_at (words_by parts spot) spot.start) ≤ length (words_by parts spot)
  pub place : at ≡ place_of parts spot

-- and the word so many behind its first one is a word of the object
pub record IsWord (parts : Parted) (at i : ℕ) (spot : Spot) : Type 0 where
  pub header : IsHeader parts at spot
  pub below : i < words_of (size_at (words_by parts spot) spot.start)

-- and its kind has a shape that gives it so many words of contents as it has, of which one is meant
pub record IsShaped (parts : Parted) (shapes : List Shape) (at i : ℕ) (spot : Spot) : Type 0 where
  pub header : IsHeader parts at spot
  pub shaped : IsTrue (has_size shapes (kind_at (words_by parts spot) spot.start) (size_at (words_by parts spot) spot.start))
  pub below : i < size_at (words_by parts spot) spot.start
