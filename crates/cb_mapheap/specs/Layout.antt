-- How objects lie in the words of the store.
use Rattle.std.specs.Prelude.{◌≡◌, ◌+◌, ◌/◌, ◌^◌, ◌<◌, ◌≤◌, ℕ, List, [], ◌∷◌, IsTrue, length, drop, suc}
use Rattle.cb_plain.specs.declared.shape.Shape.{Shape}
use Rattle.cb_plain.specs.declared.want.Want.{Want}
use Rattle.cb_heap.specs.Grants.{words_granted}
use Rattle.cb_heap.specs.Shaped.{has_size}
use Rattle.cb_mapheap.specs.Words.{kind_of, length_of, serial_of, site_of, size_of}

-- an object of a serial begins here, all of it is there, and its length is one that its kind may have
pub record Begins (all : List Shape) (serial : ℕ) (words : List ℕ) : Type 0 where
  pub shaped : IsTrue (has_size all (kind_of words) (length_of words))
  pub whole : size_of words ≤ length words
  pub numbered : serial_of words ≡ serial
  pub site : site_of words < 2 ^ 32

-- the objects from a serial on lie one behind the other, at these places, and the words end with the last of them
abbrev pub LiesAt : List Shape → (at serial : ℕ) → (starts words : List ℕ) → Type 0
LiesAt all at serial [] words = words ≡ []
LiesAt all at serial (start ∷ starts) words =
    (start ≡ at) × Begins all serial words × LiesAt all (at + size_of words) (suc serial) starts (drop (size_of words) words)

-- a store: where its objects begin, and room for what is granted
pub record IsStore (all : List Shape) (starts words : List ℕ) (granted : List Want) (most_starts most_words : ℕ) : Type 0 where
  pub lies : LiesAt all 0 1 starts words
  pub word_room : length words + words_granted granted ≤ most_words
  pub start_room : length starts + words_granted granted / 3 ≤ most_starts
