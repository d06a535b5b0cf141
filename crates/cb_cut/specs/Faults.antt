-- Why a flow is no certificate of a set: the first thing that breaks one.
use Rattle.std.specs.Prelude.{◌≡◌, ◌≢◌, ℕ, ◌*◌, ◌-◌, ◌^◌, ◌<◌, ◌≤◌, ℤ, Bool, true, List, Option, Some, None, length, slice_index, slice_index_or}
use Rattle.std.specs.List.{All}
use Rattle.cb_plain.specs.Amounts.{Amounts}
use Rattle.cb_dag.specs.Closed.{IsClosed, gain}
use Rattle.cb_dag.specs.Flows.{bound, gain_at, inflow, negative, outflow, positive}
use Rattle.cb_dag.specs.Marks.{marked}
use Rattle.cb_cut.specs.declared.fault.CutFault.{CutFault}
use Rattle.cb_cut.specs.declared.fault.CutFault.TheVariants.{NotClosed, OverCapacity, Unbalanced, Unequal}

-- the first number at which something isn't so
pub record IsFirstNot (Fine : ℕ → Type 0) (count at : ℕ) : Type 0 where
  pub within : at < count
  pub broken : Fine at → ⊥
  pub before : (earlier : ℕ) → earlier < at → Fine earlier

-- an edge keeps the set closed
abbrev pub KeepsClosed : List (ℕ × ℕ) → List Bool → ℕ → Type 0
KeepsClosed edges set i = marked set (slice_index_or edges i (0, 0)).1 ≡ true → marked set (slice_index_or edges i (0, 0)).0 ≡ true

-- an arc from the source or to the sink carries no more than it may; those to the sink are numbered behind those from the source
abbrev pub IsWithinCapacity : List ℤ → Amounts → ℕ → Type 0
IsWithinCapacity gains flow arc =
    (arc < length gains → slice_index flow.sources arc ≤ positive (gain_at gains arc))
    × (length gains ≤ arc → slice_index flow.sinks (arc - length gains) ≤ negative (gain_at gains (arc - length gains)))

-- as much flows into a part as out of it
abbrev pub IsBalanced : List (ℕ × ℕ) → Amounts → ℕ → Type 0
IsBalanced edges flow part = inflow edges flow part ≡ outflow edges flow part

-- the first fault in this order: of edges, of arcs, of parts, of sums
abbrev pub IsFirstFault : List ℤ → List (ℕ × ℕ) → List Bool → Amounts → CutFault → Type 0
IsFirstFault gains edges set flow (NotClosed edge) = IsFirstNot (KeepsClosed edges set) (length edges) edge
IsFirstFault gains edges set flow (OverCapacity arc) = IsClosed edges set × IsFirstNot (IsWithinCapacity gains flow) (2 * length gains) arc
IsFirstFault gains edges set flow (Unbalanced part) =
    IsClosed edges set × ((arc : ℕ) → arc < 2 * length gains → IsWithinCapacity gains flow arc) × IsFirstNot (IsBalanced edges flow) (length gains) part
IsFirstFault gains edges set flow (Unequal gained most) =
    IsClosed edges set × ((arc : ℕ) → arc < 2 * length gains → IsWithinCapacity gains flow arc) × ((part : ℕ) → part < length gains → IsBalanced edges flow part)
    × (gained ≡ gain gains set) × (most ≡ bound gains flow) × (gained ≢ most)

-- gains, a set and a flow of the parts and edges of a graph, the gains of bounded size
pub record AreOf (parts : ℕ) (edges : List (ℕ × ℕ)) (gains : List ℤ) (set : List Bool) (flow : Amounts) : Type 0 where
  pub gain_each : length gains ≡ parts
  pub set_each : length set ≡ parts
  pub source_each : length flow.sources ≡ parts
  pub sink_each : length flow.sinks ≡ parts
  pub arc_each : length flow.arcs ≡ length edges
  pub low : All (λ gained. positive gained ≤ 2 ^ 28) gains
  pub high : All (λ gained. negative gained ≤ 2 ^ 28) gains

abbrev pub IsUnequal : List ℤ → List Bool → Amounts → CutFault → Type 0
IsUnequal gains set flow (NotClosed edge) = ⊥
IsUnequal gains set flow (OverCapacity arc) = ⊥
IsUnequal gains set flow (Unbalanced part) = ⊥
IsUnequal gains set flow (Unequal gained most) = (gained ≡ gain gains set) × (most ≡ bound gains flow) × (gained ≢ most)

-- the first of the numbers below one at which something isn't so, if there is any
abbrev pub IsFirst : (ℕ → Type 0) → ℕ → Option ℕ → Type 0
IsFirst Fine count None = (at : ℕ) → at < count → Fine at
IsFirst Fine count (Some at) = IsFirstNot Fine count at

abbrev pub IsSourceWithin : List ℤ → Amounts → ℕ → Type 0
IsSourceWithin gains flow part = slice_index flow.sources part ≤ positive (gain_at gains part)

abbrev pub IsSinkWithin : List ℤ → Amounts → ℕ → Type 0
IsSinkWithin gains flow part = slice_index flow.sinks part ≤ negative (gain_at gains part)
