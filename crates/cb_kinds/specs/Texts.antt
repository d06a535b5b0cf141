-- Texts, each once, by their numbers.
use Rattle.std.specs.Prelude.{◌≡◌, ℕ, Bool, ◌&&◌, List, [], ◌∷◌, ◌++◌, filter, not, nat_eq, Option, Some, if◌then◌else◌, slice_get}
use Rattle.std.specs.Cmp.Lexicographic.{pointwise}
use Rattle.std.specs.List.{list_any, position, position_or_len}

abbrev pub same_text : List ℕ → List ℕ → Bool
same_text one other = pointwise nat_eq one other

-- each text where it stands first
abbrev pub firsts : List (List ℕ) → List (List ℕ)
firsts [] = []
firsts (text ∷ texts) = text ∷ filter (λ other. not (same_text text other)) (firsts texts)

-- the number of a text, if it is there
abbrev pub number_of : List (List ℕ) → List ℕ → Option ℕ
number_of texts text = position (same_text text) texts

-- each text stands once: its number is its place
pub record EachOnce (texts : List (List ℕ)) : Type 0 where
  pub own : (number : ℕ) (text : List ℕ) → slice_get texts number ≡ Some text → number_of texts text ≡ Some number

-- with one more text, and with all of these, each unless it is there
abbrev pub entered : List (List ℕ) → List ℕ → List (List ℕ)
entered texts text = if list_any (same_text text) texts then texts else texts ++ text ∷ []

abbrev pub entered_all : List (List ℕ) → List (List ℕ) → List (List ℕ)
entered_all texts [] = texts
entered_all texts (text ∷ more) = entered_all (entered texts text) more

-- pairs of texts, as a name and a descriptor
abbrev pub same_texts : List ℕ × List ℕ → List ℕ × List ℕ → Bool
same_texts one other = same_text one.0 other.0 && same_text one.1 other.1

-- the number of the first pair that is the same, if it is there
abbrev pub number_of_pair : List (List ℕ × List ℕ) → List ℕ × List ℕ → Option ℕ
number_of_pair pairs wanted = position (same_texts wanted) pairs

-- the number of the first that is the same as one that is there
abbrev pub own_number : List (List ℕ × List ℕ) → List ℕ × List ℕ → ℕ
own_number pairs own = position_or_len (same_texts own) pairs
