-- The parts of a graph, its strongly connected components: nodes of which each leads to each other (Tarjan 1972), and the edges between them.
use Rattle.std.specs.Prelude.{◌≡◌, ◌≢◌, ◌⊎◌, ℕ, ◌<◌, ◌≤◌, Bool, List, length, slice_index, slice_index_or}
use Rattle.std.specs.List.{All, Contains}
use Rattle.cb_dag.specs.Graphs.{HasEdge, Leads, Mutual}

-- what a graph is condensed to: how many parts there are, the part of each node, and the edges between parts
pub record Condensed : Type 0 where
  pub parts : ℕ
  pub part_of : List ℕ
  pub edges : List (ℕ × ℕ)

-- a node before which none of its part comes
abbrev pub IsFirst : List ℕ → ℕ → Type 0
IsFirst part_of node = (other : ℕ) → other < node → slice_index part_of other ≢ slice_index part_of node

-- two nodes have one part exactly where each leads to the other. Parts are numbered from 0 by their first nodes
pub record AreParts (Edge : ℕ → ℕ → Type 0) (nodes parts : ℕ) (part_of : List ℕ) : Type 0 where
  pub each : length part_of ≡ nodes
  pub together : (a b : ℕ) → a < nodes → b < nodes → slice_index part_of a ≡ slice_index part_of b → Leads Edge a b
  pub alike : (a b : ℕ) → a < nodes → b < nodes → Mutual Edge a b → slice_index part_of a ≡ slice_index part_of b
  pub below : (a : ℕ) → a < nodes → slice_index part_of a < parts
  pub some : (p : ℕ) → p < parts → (a : ℕ) × (a < nodes) × (slice_index part_of a ≡ p)
  pub rise : (a b : ℕ) → a < b → b < nodes → IsFirst part_of a → IsFirst part_of b → slice_index part_of a < slice_index part_of b

-- an edge leads from one part to another where they differ and one leads from a node of the one to a node of the other
pub record Joins (Edge : ℕ → ℕ → Type 0) (nodes : ℕ) (part_of : List ℕ) (p q : ℕ) : Type 0 where
  pub differ : p ≢ q
  pub from : ℕ
  pub to : ℕ
  pub from_within : from < nodes
  pub to_within : to < nodes
  pub in_from : slice_index part_of from ≡ p
  pub in_to : slice_index part_of to ≡ q
  pub edge : Edge from to

-- pairs in ascending order, by their first numbers and then by their second ones
abbrev pub Before : ℕ × ℕ → ℕ × ℕ → Type 0
Before one other = (one.0 < other.0) ⊎ ((one.0 ≡ other.0) × (one.1 < other.1))

abbrev pub IsAscending : List (ℕ × ℕ) → Type 0
IsAscending pairs = (i j : ℕ) → i < j → j < length pairs → Before (slice_index_or pairs i (0, 0)) (slice_index_or pairs j (0, 0))

-- a graph whose edges are listed
abbrev pub HasPair : List (ℕ × ℕ) → ℕ → ℕ → Type 0
HasPair pairs p q = Contains pairs (p, q)

-- exactly the edges between parts, in ascending order
pub record AreEdges (Edge : ℕ → ℕ → Type 0) (nodes : ℕ) (part_of : List ℕ) (edges : List (ℕ × ℕ)) : Type 0 where
  pub listed : (p q : ℕ) → HasPair edges p q → Joins Edge nodes part_of p q
  pub all : (p q : ℕ) → Joins Edge nodes part_of p q → HasPair edges p q
  pub ascending : IsAscending edges

-- no part leads to another one that leads back to it
pub record IsAcyclic (Edge : ℕ → ℕ → Type 0) : Type 0 where
  pub single : (p q : ℕ) → Mutual Edge p q → p ≡ q

-- the ends of edges are parts
abbrev pub AreWithin : ℕ → List (ℕ × ℕ) → Type 0
AreWithin parts edges = All (λ edge. (edge.0 < parts) × (edge.1 < parts)) edges

-- the parts of a graph and the edges between them
pub record IsCondensed (rows : List (List Bool)) (graph : Condensed) : Type 0 where
  pub parts : AreParts (HasEdge rows) (length rows) graph.parts graph.part_of
  pub edges : AreEdges (HasEdge rows) (length rows) graph.part_of graph.edges
  pub acyclic : IsAcyclic (HasPair graph.edges)

-- how many parts and edges between them there may be
abbrev pub most_parts : ℕ
most_parts = 4096

abbrev pub most_edges : ℕ
most_edges = 262144

pub record HasManyParts (rows : List (List Bool)) : Type 0 where
  pub parts : ℕ
  pub part_of : List ℕ
  pub are : AreParts (HasEdge rows) (length rows) parts part_of
  pub many : most_parts < parts

-- there are more edges where some of them, each once, are more
pub record HasManyEdges (rows : List (List Bool)) : Type 0 where
  pub parts : ℕ
  pub part_of : List ℕ
  pub are : AreParts (HasEdge rows) (length rows) parts part_of
  pub few : parts ≤ most_parts
  pub edges : List (ℕ × ℕ)
  pub ascending : IsAscending edges
  pub listed : (p q : ℕ) → HasPair edges p q → Joins (HasEdge rows) (length rows) part_of p q
  pub many : most_edges < length edges
