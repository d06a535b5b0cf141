-- The room that kept objects take in partitions.
use Rattle.std.specs.Prelude.{ℕ, ◌+◌, ◌-◌, ◌/◌, ◌≤◌, ◌==◌, List, Option, Some, None, if◌then◌else◌}
use Rattle.std.specs.List.{range_with_len, sum_by}
use Rattle.cb_plain.specs.declared.want.Want.{Want}
use Rattle.cb_plain.specs.State.{Object}
use Rattle.cb_heap.specs.Kept.{entry_words}

-- the words of the objects of a partition, whose sites tell it
abbrev words_if : (ℕ → ℕ) → ℕ → Option Object → ℕ
words_if part_of part None = 0
words_if part_of part (Some object) = if part_of object.site == part then entry_words (Some object) else 0

abbrev pub used : (part_of : ℕ → ℕ) → List (Option Object) → ℕ → ℕ
used part_of objects part = sum_by (words_if part_of part) objects

-- the words that are asked for in it
abbrev wanted_in : (ℕ → ℕ) → ℕ → Want → ℕ
wanted_in part_of part want = if part_of want.site == part then want.words else 0

abbrev pub wanted : (part_of : ℕ → ℕ) → List Want → ℕ → ℕ
wanted part_of wants part = sum_by (wanted_in part_of part) wants

-- blocks of 256 words: each partition takes whole ones
abbrev pub block_words : ℕ
block_words = 256

abbrev pub blocks_of : ℕ → ℕ
blocks_of words = (words + (block_words - 1)) / block_words

abbrev pub blocks : (parts : ℕ) → (ℕ → ℕ) → ℕ
blocks parts words_of_part = sum_by (λ part. blocks_of (words_of_part part)) (range_with_len 0 parts)

-- whether what is asked for has room beside what is kept, in so many blocks
abbrev pub HasRoom : (parts : ℕ) → (ℕ → ℕ) → List (Option Object) → List Want → ℕ → Type 0
HasRoom parts part_of objects wants limit = blocks parts (λ part. used part_of objects part + wanted part_of wants part) ≤ limit
