-- Words of raw memory.
use Rattle.std.specs.Prelude.{ℕ, ◌+◌, List, ◌++◌, take, drop, replicate}

-- the words of a region, and how many of them in front were ever touched
pub record RawWords : Type 0 where
  pub words : List ℕ
  pub touched : ℕ

-- so many words that hold 0, of which none was touched
abbrev pub blank : ℕ → RawWords
blank count = record { words = replicate count 0; touched = 0 }

-- the words with count of them, from a place on, copied to another by way of a second list
abbrev pub copied : List ℕ → ℕ → ℕ → ℕ → List ℕ
copied words from to count = take to words ++ take count (drop from words) ++ drop (to + count) words

-- the words with 0 in count of them, from a place on
abbrev pub zeroed : List ℕ → ℕ → ℕ → List ℕ
zeroed words from count = take from words ++ replicate count 0 ++ drop (from + count) words
