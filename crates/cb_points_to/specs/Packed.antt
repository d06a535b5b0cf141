-- Marks, packed in words.
use Rattle.std.specs.Prelude.{ℕ, ◌/◌, ◌%◌, Bool, false, List, map, nat_eq, slice_index_or}
use Rattle.std.specs.Int.{bit_at}
use Rattle.std.specs.List.{range_with_len}

-- the mark at a place, none past the end
abbrev pub marked : List Bool → ℕ → Bool
marked marks place = slice_index_or marks place false

-- the bit of a place, 64 to a word
abbrev pub bit_of : List ℕ → ℕ → Bool
bit_of words place = nat_eq (bit_at (slice_index_or words (place / 64) 0) (place % 64)) 1

abbrev pub unpacked : ℕ → List ℕ → List Bool
unpacked len words = map (bit_of words) (range_with_len 0 len)
