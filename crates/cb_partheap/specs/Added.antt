-- Parts of a heap with more words in one.
use Rattle.std.specs.Prelude.{◌≡◌, ◌<◌, ◌++◌, ℕ, List, length, slice_set}
use Rattle.cb_blocks.specs.Parted.{IsParted, Parted, index_of}
use Rattle.cb_blocks.specs.Rows.{row}

-- these words stand at the end of a part, and all that was there stands where it stood
pub record IsAdded (old new : Parted) (part : ℕ) (more : List ℕ) : Type 0 where
  pub sound : IsParted new
  pub blocks : new.blocks ≡ old.blocks
  pub words_are : new.words ≡ slice_set old.words part (row old.words part ++ more)
  pub stays : (other i : ℕ) → other < length old.words → i < length (row old.words other) → index_of new other i ≡ index_of old other i
