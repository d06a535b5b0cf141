-- Graphs as grids of marks, and paths along edges.
use Rattle.std.specs.Prelude.{◌≡◌, ℕ, Bool, true, false, List, [], length, slice_index_or, slice_set}
use Rattle.std.specs.List.{All}

-- a row of marks for each node: whether an edge leads from it to each node
abbrev pub has_edge : List (List Bool) → ℕ → ℕ → Bool
has_edge rows a b = slice_index_or (slice_index_or rows a []) b false

abbrev pub HasEdge : List (List Bool) → ℕ → ℕ → Type 0
HasEdge rows a b = has_edge rows a b ≡ true

-- the grid with one edge more
abbrev pub with_edge : List (List Bool) → ℕ → ℕ → List (List Bool)
with_edge rows a b = slice_set rows a (slice_set (slice_index_or rows a []) b true)

-- as many marks in each row as there are rows
pub record IsSquare (rows : List (List Bool)) : Type 0 where
  pub square : All (λ row. length row ≡ length rows) rows

-- a path along edges, of any length, none included
pub data Leads (Edge : ℕ → ℕ → Type 0) (a : ℕ) : ℕ → Type 0 where
  Here : Leads Edge a a
  Along : {b c : ℕ} → Leads Edge a b → Edge b c → Leads Edge a c

-- each of two nodes leads to the other
pub record Mutual (Edge : ℕ → ℕ → Type 0) (a b : ℕ) : Type 0 where
  pub there : Leads Edge a b
  pub back : Leads Edge b a
