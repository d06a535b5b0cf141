-- What two searches through a graph keep: one that lists its nodes as it leaves them, and one back from the node that was left last.
use Rattle.std.specs.Prelude.{◌≡◌, ◌⊎◌, ◌==◌, ◌||◌, ℕ, ◌+◌, ◌*◌, ◌<◌, Bool, true, false, List, [], ◌∷◌, length, slice_index, count_by, nat_le, not}
use Rattle.cb_dag.specs.Graphs.{HasEdge, IsSquare, Leads, Mutual}
use Rattle.cb_dag.specs.Marks.{marked}

abbrev pub is_in : ℕ → List ℕ → Bool
is_in node [] = false
is_in node (other ∷ others) = other == node || is_in node others

-- nodes that were come to one from another: each other one leads to the last
abbrev pub IsTrail : (ℕ → ℕ → Type 0) → List ℕ → Type 0
IsTrail Edge [] = Unit {0}
IsTrail Edge (node ∷ rest) = (is_in node rest ≡ false) × ((other : ℕ) → is_in other rest ≡ true → Leads Edge other node) × IsTrail Edge rest

-- nodes, the one that was left last in front: what leads to one of them is in one part with a node that was not left before it
abbrev pub IsFinishing : (ℕ → ℕ → Type 0) → ℕ → List ℕ → Type 0
IsFinishing Edge nodes [] = Unit {0}
IsFinishing Edge nodes (node ∷ earlier) =
    ((a : ℕ) → a < nodes → Leads Edge a node → (c : ℕ) × (c < nodes) × Mutual Edge a c × (is_in c earlier ≡ false)) × IsFinishing Edge nodes earlier

-- the first search: each node that was seen is on the trail or was left. From one that was left edges lead to nodes that were seen, and what
-- leads from it to a node that wasn't left, is in one part with a node of the trail
pub record IsSearch (rows : List (List Bool)) (seen : List Bool) (cursors trail left : List ℕ) : Type 0 where
  pub seen_count : length seen ≡ length rows
  pub cursor_count : length cursors ≡ length rows
  pub on_trail : (a : ℕ) → is_in a trail ≡ true → marked seen a ≡ true
  pub were_left : (a : ℕ) → is_in a left ≡ true → marked seen a ≡ true
  pub cover : (a : ℕ) → marked seen a ≡ true → is_in a trail ≡ false → is_in a left ≡ true
  pub apart : (a : ℕ) → is_in a trail ≡ true → is_in a left ≡ false
  pub steps : IsTrail (HasEdge rows) trail
  pub tried : (a b : ℕ) → is_in a trail ≡ true → b < slice_index cursors a → HasEdge rows a b → marked seen b ≡ true
  pub behind : (a b : ℕ) → is_in a left ≡ true → HasEdge rows a b → marked seen b ≡ true
  pub leads_back : (a b : ℕ) → is_in a left ≡ true → is_in b left ≡ false → Leads (HasEdge rows) a b
      → (g : ℕ) × (is_in g trail ≡ true) × Mutual (HasEdge rows) a g
  pub finishing : IsFinishing (HasEdge rows) (length rows) left

-- how much of the first search there is left to do: each node is entered and left
abbrev pub steps_left : List Bool → List ℕ → ℕ
steps_left seen trail = 2 * count_by not seen + length trail

-- the graph with each edge turned
pub record IsTurned (rows turned : List (List Bool)) : Type 0 where
  pub nodes : length turned ≡ length rows
  pub listed : (a b : ℕ) → HasEdge turned b a → HasEdge rows a b
  pub all : (a b : ℕ) → HasEdge rows a b → HasEdge turned b a

-- nodes that have the root of their part, or the number of the nodes where none is known. Where one has a root all of its part have it
pub record AreRoots (rows : List (List Bool)) (roots : List ℕ) : Type 0 where
  pub each : length roots ≡ length rows
  pub own : (a : ℕ) → a < length rows → slice_index roots a < length rows → Mutual (HasEdge rows) a (slice_index roots a)
  pub alike : (a b : ℕ) → a < length rows → b < length rows → slice_index roots a < length rows → Mutual (HasEdge rows) a b
      → slice_index roots b ≡ slice_index roots a

-- what leads to a node is in one part with it, or with one that has a root
abbrev pub ComesBack : List (List Bool) → List ℕ → ℕ → Type 0
ComesBack rows roots node =
    (a : ℕ) → a < length rows → Leads (HasEdge rows) a node → (c : ℕ) × (c < length rows) × Mutual (HasEdge rows) a c × ((c ≡ node) ⊎ (slice_index roots c < length rows))

-- the second search, from a root: nodes that lead to it get it as their root, unless they have one. Edges to these lead from nodes with a root,
-- unless they are still waiting; to one of them only those were looked at that lead from nodes up to one
pub record IsGathering (rows : List (List Bool)) (old now : List ℕ) (root : ℕ) (waiting : List ℕ) (node from : ℕ) : Type 0 where
  pub each : length now ≡ length rows
  pub kept : (a : ℕ) → a < length rows → slice_index old a < length rows → slice_index now a ≡ slice_index old a
  pub added : (a : ℕ) → a < length rows → slice_index now a < length rows
      → (slice_index old a < length rows) ⊎ ((slice_index now a ≡ root) × Leads (HasEdge rows) a root)
  pub first : slice_index now root ≡ root
  pub rooted : (a : ℕ) → is_in a waiting ≡ true → (a < length rows) × (slice_index now a ≡ root) × Leads (HasEdge rows) a root
  pub closed : (a b : ℕ) → b < length rows → slice_index now b ≡ root → is_in b waiting ≡ false → (b ≡ node → a < from) → HasEdge rows a b
      → slice_index now a < length rows

-- how much of the second search there is left to do
abbrev pub roots_left : ℕ → List ℕ → List ℕ → ℕ
roots_left nodes roots waiting = 2 * count_by (nat_le nodes) roots + length waiting

-- edges up to those from a node to others below one
abbrev pub UpTo : (a b node from : ℕ) → Type 0
UpTo a b node from = (a < node) ⊎ ((a ≡ node) × (b < from))

-- the edges of a graph up to some, each put at another place of a grid
pub record IsCopy (rows copy : List (List Bool)) (size : ℕ) (place : ℕ → ℕ → ℕ × ℕ) (node from : ℕ) : Type 0 where
  pub nodes : length copy ≡ size
  pub square : IsSquare copy
  pub listed : (p q : ℕ) → HasEdge copy p q → (a : ℕ) × (b : ℕ) × HasEdge rows a b × (p ≡ (place a b).0) × (q ≡ (place a b).1)
  pub all : (a b : ℕ) → HasEdge rows a b → UpTo a b node from → HasEdge copy (place a b).0 (place a b).1

-- each edge turned, and each led between parts
abbrev pub turned_place : ℕ → ℕ → ℕ × ℕ
turned_place a b = (b, a)

abbrev pub part_place : List ℕ → ℕ → ℕ → ℕ × ℕ
part_place part_of a b = (slice_index part_of a, slice_index part_of b)
