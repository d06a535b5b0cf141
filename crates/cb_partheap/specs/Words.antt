-- Objects as words of a part: three of the header, which hold kind and length, serial, and site with mark, and those of the contents.
use Rattle.std.specs.Prelude.{◌+◌, ◌*◌, ◌/◌, ◌%◌, ◌^◌, ◌==◌, ℕ, Bool, List, [], ◌∷◌, replicate, slice_index, take, zero, suc}

-- what the header tells that begins at a place
abbrev pub kind_at : List ℕ → ℕ → ℕ
kind_at words start = slice_index words start % 2 ^ 32

abbrev pub size_at : List ℕ → ℕ → ℕ
size_at words start = slice_index words start / 2 ^ 32

abbrev pub serial_at : List ℕ → ℕ → ℕ
serial_at words start = slice_index words (start + 1)

abbrev pub site_at : List ℕ → ℕ → ℕ
site_at words start = slice_index words (start + 2) % 2 ^ 14

abbrev pub mark_at : List ℕ → ℕ → ℕ
mark_at words start = slice_index words (start + 2) / 2 ^ 14

-- how many words are wanting to the last object, where objects stand one behind the other, behind so many that are wanting to one before
abbrev pub missing : ℕ → List ℕ → ℕ
missing count [] = count
missing zero (word ∷ words) = missing (suc (suc (word / 2 ^ 32))) words
missing (suc count) (word ∷ words) = missing count words

-- whether whole objects stand before a place
abbrev pub is_whole_to : List ℕ → ℕ → Bool
is_whole_to words place = missing 0 (take place words) == 0

-- the words of a new object, which isn't marked
abbrev pub blank_words : (kind size serial site : ℕ) → List ℕ
blank_words kind size serial site = (kind + size * 2 ^ 32) ∷ serial ∷ site ∷ replicate size 0
