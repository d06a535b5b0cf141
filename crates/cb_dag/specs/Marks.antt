-- Marks, packed in words.
use Rattle.std.specs.Prelude.{◌≡◌, ℕ, ◌/◌, ◌%◌, ◌*◌, ◌≤◌, ◌<◌, Bool, true, false, length, List, [], ◌∷◌, Option, Some, None, map, nat_eq, slice_index_or}
use Rattle.std.specs.Int.{bit_at}
use Rattle.std.specs.List.{range_with_len}
use Rattle.cb_dag.specs.Graphs.{has_edge}

-- the mark at a place, none past the end
abbrev pub marked : List Bool → ℕ → Bool
marked marks place = slice_index_or marks place false

-- the bit of a place, 64 to a word
abbrev pub bit_of : List ℕ → ℕ → Bool
bit_of words place = nat_eq (bit_at (slice_index_or words (place / 64) 0) (place % 64)) 1

abbrev pub unpacked : ℕ → List ℕ → List Bool
unpacked len words = map (bit_of words) (range_with_len 0 len)

-- no place from one on, up to another, is marked
abbrev pub NoneMarked : List Bool → (from to : ℕ) → Type 0
NoneMarked marks from to = (place : ℕ) → from ≤ place → place < to → marked marks place ≡ false

-- the first place from one on that is marked, if there is any
abbrev pub IsNext : List Bool → ℕ → Option ℕ → Type 0
IsNext marks from None = (place : ℕ) → from ≤ place → marked marks place ≡ false
IsNext marks from (Some next) = (from ≤ next) × (marked marks next ≡ true) × NoneMarked marks from next

-- the same of bits, up to the last word
abbrev pub NoBit : List ℕ → (from to : ℕ) → Type 0
NoBit words from to = (place : ℕ) → from ≤ place → place < to → bit_of words place ≡ false

abbrev pub IsNextBit : List ℕ → ℕ → Option ℕ → Type 0
IsNextBit words from None = NoBit words from (64 * length words)
IsNextBit words from (Some next) = (from ≤ next) × (bit_of words next ≡ true) × NoBit words from next

-- the first node from one on to which an edge leads, if there is any
abbrev pub IsNextEdge : List (List Bool) → (node from : ℕ) → Option ℕ → Type 0
IsNextEdge rows node from None = (other : ℕ) → from ≤ other → has_edge rows node other ≡ false
IsNextEdge rows node from (Some next) =
    (from ≤ next) × (next < length rows) × (has_edge rows node next ≡ true) × ((other : ℕ) → from ≤ other → other < next → has_edge rows node other ≡ false)

-- what is on top of a stack
abbrev pub IsTop : List ℕ → ℕ → Type 0
IsTop [] node = ⊥
IsTop (top ∷ rest) node = top ≡ node

-- edges lead from a node to none but marked ones, from one on and up to another
abbrev pub AllSeen : List (List Bool) → List Bool → (node from to : ℕ) → Type 0
AllSeen rows seen node from to = (other : ℕ) → from ≤ other → other < to → has_edge rows node other ≡ true → marked seen other ≡ true

-- the first node that isn't marked, from one on, to which an edge leads, if there is any
abbrev pub IsUnseen : List (List Bool) → List Bool → (node from : ℕ) → Option ℕ → Type 0
IsUnseen rows seen node from None = (other : ℕ) → from ≤ other → has_edge rows node other ≡ true → marked seen other ≡ true
IsUnseen rows seen node from (Some next) =
    (from ≤ next) × (next < length rows) × (has_edge rows node next ≡ true) × (marked seen next ≡ false) × AllSeen rows seen node from next
