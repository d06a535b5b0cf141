-- A text of the assembly format is lines, each of words with one space between two, and each ended by a newline.
use Rattle.std.specs.Prelude.{◌≢◌, ℕ, Bool, List, [], ◌∷◌, ◌++◌, ◌==◌, nat_eq, if◌then◌else◌}
use Rattle.std.specs.Cmp.Lexicographic.{pointwise}
use Rattle.std.specs.List.{AllByRecursion, flat_map, join_with_byte}

abbrev pub newline : ℕ
newline = 10

abbrev pub space : ℕ
space = 32

-- what stands between two spaces or at an end of a line. A quoted text is one word, with spaces of its own
abbrev pub Word : Type 0
Word = List ℕ

abbrev pub Line : Type 0
Line = List Word

-- a line as it stands in a text, and the text of some lines
abbrev pub line_text : Line → List ℕ
line_text words = join_with_byte space words ++ newline ∷ []

abbrev pub lines_text : List Line → List ℕ
lines_text lines = flat_map line_text lines

-- a unit at the front of the first of some pieces, which is the only one where there was none
abbrev pub put_first : ℕ → List (List ℕ) → List (List ℕ)
put_first unit [] = (unit ∷ []) ∷ []
put_first unit (piece ∷ pieces) = (unit ∷ piece) ∷ pieces

-- the lines of any text, each with its newline. What stands behind the last newline is a line too, without one
abbrev pub lines_of : List ℕ → List (List ℕ)
lines_of [] = []
lines_of (unit ∷ text) = if unit == newline then (newline ∷ []) ∷ lines_of text else put_first unit (lines_of text)

-- the words of a text, with one space between two
abbrev pub words_of : List ℕ → List Word
words_of [] = [] ∷ []
words_of (unit ∷ text) = if unit == space then [] ∷ words_of text else put_first unit (words_of text)

-- a unit stands nowhere in a text
abbrev pub Lacks : ℕ → List ℕ → Type 0
Lacks unit text = AllByRecursion (λ each. each ≢ unit) text

-- whether two texts, or two words, are one
abbrev pub same_text : List ℕ → List ℕ → Bool
same_text one other = pointwise nat_eq one other
