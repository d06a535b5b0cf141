-- Rows in pieces of one length, one behind the other.
use Rattle.std.specs.Prelude.{◌≡◌, ℕ, ◌+◌, ◌*◌, ◌<◌, ◌≤◌, ◌^◌, get_or, length, List}
use Rattle.cb_blocks.specs.Rows.{tabulated}

-- rows, and how long the longest may become
pub record Flat : Type 0 where
  pub rows : List (List ℕ)
  pub longest : ℕ

abbrev pub flat_row : List ℕ → ℕ → ℕ → List ℕ
flat_row numbers from count = tabulated count (λ i. get_or numbers (from + i) 0)

abbrev pub flat_rows : List ℕ → List ℕ → ℕ → List (List ℕ)
flat_rows numbers lens longest = tabulated (length lens) (λ part. flat_row numbers (part * longest) (get_or lens part 0))

pub record IsFlat (numbers lens : List ℕ) (longest : ℕ) : Type 0 where
  pub whole : length numbers ≡ length lens * longest
  pub short : (part : ℕ) → part < length lens → get_or lens part 0 ≤ longest
  pub small : length numbers < 2 ^ 63
  pub bound : longest < 2 ^ 32
