-- The edges of a grid, listed row by row.
use Rattle.std.specs.Prelude.{◌≢◌, ℕ, ◌<◌, ◌≤◌, Bool, List, length}
use Rattle.cb_dag.specs.Graphs.{HasEdge}
use Rattle.cb_dag.specs.Parts.{HasPair, IsAscending, most_edges}
use Rattle.cb_dag.specs.Search.{UpTo}
use Rattle.cb_dag.specs.declared.fault.DagFault.{DagFault}
use Rattle.cb_dag.specs.declared.fault.DagFault.TheVariants.{OutOfMemory, TooManyEdges, TooManyParts}

-- the edges between different nodes up to those from a node to others below one, in ascending order
pub record IsListing (rows : List (List Bool)) (edges : List (ℕ × ℕ)) (node from : ℕ) : Type 0 where
  pub ascending : IsAscending edges
  pub listed : (a b : ℕ) → HasPair edges a b → (a ≢ b) × HasEdge rows a b × UpTo a b node from
  pub all : (a b : ℕ) → a ≢ b → HasEdge rows a b → UpTo a b node from → HasPair edges a b
  pub few : length edges ≤ most_edges

-- more edges than there may be
pub record HasMoreEdges (rows : List (List Bool)) : Type 0 where
  pub edges : List (ℕ × ℕ)
  pub ascending : IsAscending edges
  pub listed : (a b : ℕ) → HasPair edges a b → (a ≢ b) × HasEdge rows a b
  pub many : most_edges < length edges

abbrev pub IsRowFault : List (List Bool) → DagFault → Type 0
IsRowFault rows TooManyParts = ⊥
IsRowFault rows TooManyEdges = HasMoreEdges rows
IsRowFault rows OutOfMemory = Unit {0}
