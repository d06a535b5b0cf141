-- New objects at the ends of parts.
use Rattle.std.proofs.Common.{◌≡◌, ◌+◌, ◌*◌, ◌^◌, ◌<◌, ℕ, List, length, ap}
use Rattle.cb_blocks.specs.Parted.{IsAt, IsGrownBy, IsParted, Parted}
use Rattle.cb_blocks.specs.Rows.{row}
use Rattle.cb_blocks.proofs.Laws.{index_grown_by}
use Rattle.cb_partheap.specs.Added.{IsAdded}
use Rattle.cb_partheap.specs.Spots.{Spot, place_of}

-- where the next object of a part begins
abbrev pub spot_at_end : Parted → ℕ → Spot
spot_at_end old part = record { part = part; start = length (row old.words part) }

pub added : (old new : Parted) (part : ℕ) (more : List ℕ) → IsParted old → part < length old.words → IsParted new → IsGrownBy old new part more → IsAdded old new part more
added old new part more is below sound grown = record {
  sound = sound;
  blocks = grown.blocks;
  words_are = grown.words_are;
  stays = λ other i h inside. index_grown_by old new part more other i is below grown h inside;
}

pub place_at : (old new : Parted) (part index : ℕ) → IsAt new part (length (row old.words part)) index → part * 2 ^ 29 + index + 1 ≡ place_of new (spot_at_end old part)
place_at old new part index at = ap (λ n. part * 2 ^ 29 + n + 1) at.2
