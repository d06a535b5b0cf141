-- Flows from a source to a sink through parts, which show what closed sets gain (Ford and Fulkerson 1956).
use Rattle.std.specs.Prelude.{◌≡◌, ◌==◌, ℕ, suc, ◌+◌, ◌<◌, ◌≤◌, ℤ, pos, negsuc, ◌-ℤ◌, Bool, true, List, [], ◌∷◌, length, slice_index, slice_index_or, sum, sum_by, if◌then◌else◌}
use Rattle.cb_plain.specs.Amounts.{Amounts}
use Rattle.cb_dag.specs.Closed.{IsClosedSet, gain}
use Rattle.cb_dag.specs.Marks.{marked}
use Rattle.cb_dag.specs.Places.{end_of}
use Rattle.cb_dag.specs.declared.ends.End.{End}
use Rattle.cb_dag.specs.declared.ends.End.TheVariants.{Finish, Start}

-- a gain that is positive, and how far one is below 0
abbrev pub positive : ℤ → ℕ
positive (pos n) = n
positive (negsuc n) = 0

abbrev pub negative : ℤ → ℕ
negative (pos n) = 0
negative (negsuc n) = suc n

abbrev pub gain_at : List ℤ → ℕ → ℤ
gain_at gains part = slice_index_or gains part (pos 0)

-- the sum of the amounts of the edges that have a part as this end
abbrev pub amount_at : End → ℕ → List (ℕ × ℕ) → List ℕ → ℕ
amount_at end part [] arcs = 0
amount_at end part (edge ∷ edges) [] = 0
amount_at end part (edge ∷ edges) (arc ∷ arcs) = (if end_of end edge == part then arc else 0) + amount_at end part edges arcs

-- what flows into a part and out of it. Along an edge it flows from the part to which the edge leads to the one from which it leads
abbrev pub inflow : List (ℕ × ℕ) → Amounts → ℕ → ℕ
inflow edges flow part = slice_index flow.sources part + amount_at Start part edges flow.arcs

abbrev pub outflow : List (ℕ × ℕ) → Amounts → ℕ → ℕ
outflow edges flow part = slice_index flow.sinks part + amount_at Finish part edges flow.arcs

-- from the source at most the positive gain of a part flows to it, from it to the sink at most what its gain is below 0, along edges any amount; and
-- as much flows into each part as out of it
pub record IsFlow (gains : List ℤ) (edges : List (ℕ × ℕ)) (flow : Amounts) : Type 0 where
  pub source_each : length flow.sources ≡ length gains
  pub sink_each : length flow.sinks ≡ length gains
  pub arc_each : length flow.arcs ≡ length edges
  pub sources : (part : ℕ) → part < length gains → slice_index flow.sources part ≤ positive (gain_at gains part)
  pub sinks : (part : ℕ) → part < length gains → slice_index flow.sinks part ≤ negative (gain_at gains part)
  pub balanced : (part : ℕ) → part < length gains → inflow edges flow part ≡ outflow edges flow part

-- no flow is greater
pub record IsGreatest (gains : List ℤ) (edges : List (ℕ × ℕ)) (flow : Amounts) : Type 0 where
  pub is_flow : IsFlow gains edges flow
  pub greatest : (other : Amounts) → IsFlow gains edges other → sum other.sources ≤ sum flow.sources

-- what no closed set gains more than: the positive gains less what flows from the source
abbrev pub bound : List ℤ → Amounts → ℤ
bound gains flow = pos (sum_by positive gains) -ℤ pos (sum flow.sources)

-- a flow that shows of a closed set that none gains more
pub record IsCertificate (gains : List ℤ) (edges : List (ℕ × ℕ)) (set : List Bool) (flow : Amounts) : Type 0 where
  pub is_set : IsClosedSet gains edges set
  pub is_flow : IsFlow gains edges flow
  pub reached : gain gains set ≡ bound gains flow

-- the parts that more could flow to from the source: straight from it, on against an edge, or along one by giving back what flows against it
pub data IsReached (gains : List ℤ) (edges : List (ℕ × ℕ)) (flow : Amounts) : ℕ → Type 0 where
  FromSource : (part : ℕ) → part < length gains → slice_index flow.sources part < positive (gain_at gains part) → IsReached gains edges flow part
  Onwards : (p q i : ℕ) → IsReached gains edges flow q → i < length edges → slice_index_or edges i (0, 0) ≡ (p, q) → IsReached gains edges flow p
  GivenBack : (p q i : ℕ) → IsReached gains edges flow p → i < length edges → slice_index_or edges i (0, 0) ≡ (p, q) → 0 < slice_index flow.arcs i
      → IsReached gains edges flow q

-- a set of exactly these parts
abbrev pub IsReachedSet : List ℤ → List (ℕ × ℕ) → Amounts → List Bool → Type 0
IsReachedSet gains edges flow set =
    (part : ℕ) → part < length gains → (marked set part ≡ true → IsReached gains edges flow part) × (IsReached gains edges flow part → marked set part ≡ true)

-- no more can flow to the sink: where a part is reached, as much flows from it to the sink as may
abbrev pub IsCutOff : List ℤ → List (ℕ × ℕ) → Amounts → Type 0
IsCutOff gains edges flow = (part : ℕ) → part < length gains → IsReached gains edges flow part → slice_index flow.sinks part ≡ negative (gain_at gains part)
