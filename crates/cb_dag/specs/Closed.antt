-- Sets of parts that are closed, what they gain, and the best of them (Picard 1976: maximum closures; Hirzel, Diwan and Hertz 2003: what is collected).
use Rattle.std.specs.Prelude.{◌≡◌, ℕ, ◌*◌, ℤ, pos, ◌+ℤ◌, ◌-ℤ◌, ◌≤ℤ◌, Bool, true, false, List, [], ◌∷◌, length}
use Rattle.std.specs.List.{All}
use Rattle.cb_plain.specs.declared.facts.Facts.{Facts}
use Rattle.cb_dag.specs.Marks.{marked}

-- with the part to which an edge leads, the set has the one from which it leads
abbrev pub IsClosed : List (ℕ × ℕ) → List Bool → Type 0
IsClosed edges set = All (λ edge. marked set edge.1 ≡ true → marked set edge.0 ≡ true) edges

-- the sum of what the parts of a set gain
abbrev pub gain : List ℤ → List Bool → ℤ
gain [] set = pos 0
gain (first ∷ gains) [] = pos 0
gain (first ∷ gains) (true ∷ set) = first +ℤ gain gains set
gain (first ∷ gains) (false ∷ set) = gain gains set

-- each part of one set is in the other
abbrev pub IsWithin : List Bool → List Bool → Type 0
IsWithin set other = (part : ℕ) → marked set part ≡ true → marked other part ≡ true

-- a closed set of parts, each of which has a gain
pub record IsClosedSet {Gain : Type 0} (gains : List Gain) (edges : List (ℕ × ℕ)) (set : List Bool) : Type 0 where
  pub each : length set ≡ length gains
  pub closed : IsClosed edges set

-- no closed set gains more
abbrev pub NoneGainsMore : List ℤ → List (ℕ × ℕ) → List Bool → Type 0
NoneGainsMore gains edges set = (other : List Bool) → IsClosedSet gains edges other → gain gains other ≤ℤ gain gains set

-- the best set: closed, none gains more, and it is within each that gains as much
pub record IsBest (gains : List ℤ) (edges : List (ℕ × ℕ)) (set : List Bool) : Type 0 where
  pub is_set : IsClosedSet gains edges set
  pub greatest : NoneGainsMore gains edges set
  pub least : (other : List Bool) → IsClosedSet gains edges other → gain gains other ≡ gain gains set → IsWithin set other

-- what a part gains when it is collected: the words that are used, less twice those that are reckoned to survive, which are marked and moved
abbrev pub gain_of : Facts → (survivors : ℕ) → ℤ
gain_of facts survivors = pos facts.used -ℤ pos (2 * survivors)
