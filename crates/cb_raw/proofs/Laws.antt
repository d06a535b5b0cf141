-- What a copy within words and zeros laid over them leave, place by place.
use Rattle.std.proofs.Common.{◌≡◌, ℕ, ◌+◌, ◌-◌, ◌<◌, ◌≤◌, List, length, get_or, arith}
use Rattle.std.proofs.lemmas.List.{places}
use Rattle.cb_raw.specs.Words.{copied, zeroed}

pub length-copied : (words : List ℕ) (from to count : ℕ) → from + count ≤ length words → to + count ≤ length words → length (copied words from to count) ≡ length words
length-copied words from to count source target = grind (arith, places)

pub copied_there : (words : List ℕ) (from to count i : ℕ) → from + count ≤ length words → to + count ≤ length words → to ≤ i → i < to + count
    → get_or (copied words from to count) i 0 ≡ get_or words (from + (i - to)) 0
copied_there words from to count i source target above below = grind (arith, places)

pub copied_before : (words : List ℕ) (from to count i : ℕ) → from + count ≤ length words → to + count ≤ length words → i < to
    → get_or (copied words from to count) i 0 ≡ get_or words i 0
copied_before words from to count i source target below = grind (arith, places)

pub copied_behind : (words : List ℕ) (from to count i : ℕ) → from + count ≤ length words → to + count ≤ length words → to + count ≤ i
    → get_or (copied words from to count) i 0 ≡ get_or words i 0
copied_behind words from to count i source target above = grind (arith, places)

pub length-zeroed : (words : List ℕ) (from count : ℕ) → from + count ≤ length words → length (zeroed words from count) ≡ length words
length-zeroed words from count fits = grind (arith, places)

pub zeroed_there : (words : List ℕ) (from count i : ℕ) → from + count ≤ length words → from ≤ i → i < from + count → get_or (zeroed words from count) i 0 ≡ 0
zeroed_there words from count i fits above below = grind (arith, places)

pub zeroed_before : (words : List ℕ) (from count i : ℕ) → from + count ≤ length words → i < from → get_or (zeroed words from count) i 0 ≡ get_or words i 0
zeroed_before words from count i fits below = grind (arith, places)

pub zeroed_behind : (words : List ℕ) (from count i : ℕ) → from + count ≤ length words → from + count ≤ i → get_or (zeroed words from count) i 0 ≡ get_or words i 0
zeroed_behind words from count i fits above = grind (arith, places)
