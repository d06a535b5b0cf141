-- A search for parts that more could flow to from the source.
use Rattle.std.specs.Prelude.{◌≡◌, ◌==◌, ℕ, ◌+◌, ◌-◌, ◌^◌, ◌<◌, ◌≤◌, ℤ, Bool, true, List, Option, Some, None, length, slice_index, slice_index_or, count_by, sum, if◌then◌else◌}
use Rattle.cb_plain.specs.Amounts.{Amounts}
use Rattle.cb_plain.specs.Flows.{with_arc}
use Rattle.cb_dag.specs.Flows.{gain_at, inflow, negative, outflow, positive}
use Rattle.cb_flow.specs.Networks.{IsHeld}
use Rattle.cb_dag.specs.Marks.{marked}
use Rattle.cb_flow.specs.declared.visit.Visit.{Visit}
use Rattle.cb_flow.specs.declared.visit.Way.{Way}
use Rattle.cb_flow.specs.declared.visit.Way.TheVariants.{FromSource, GivenBack, Onwards}

abbrev pub no_visit : Visit
no_visit = record { part = 0; way = FromSource; edge = 0; parent = 0; room = 0 }

abbrev pub visit_at : List Visit → ℕ → Visit
visit_at visits at = slice_index_or visits at no_visit

abbrev pub part_at : List Visit → ℕ → ℕ
part_at visits at = (visit_at visits at).part

-- so much more could flow to a part, straight from the source, or from that of an earlier visit
abbrev pub WayHolds : List ℤ → List (ℕ × ℕ) → Amounts → List Visit → (before : ℕ) → Visit → Way → Type 0
WayHolds gains edges flow visits before visit FromSource = visit.room + slice_index flow.sources visit.part ≤ positive (gain_at gains visit.part)
WayHolds gains edges flow visits before visit Onwards =
    (visit.parent < before) × (visit.edge < length edges) × (slice_index_or edges visit.edge (0, 0) ≡ (visit.part, part_at visits visit.parent))
    × (visit.room ≤ (visit_at visits visit.parent).room)
WayHolds gains edges flow visits before visit GivenBack =
    (visit.parent < before) × (visit.edge < length edges) × (slice_index_or edges visit.edge (0, 0) ≡ (part_at visits visit.parent, visit.part))
    × (visit.room ≤ (visit_at visits visit.parent).room) × (visit.room ≤ slice_index flow.arcs visit.edge)

pub record IsVisit (gains : List ℤ) (edges : List (ℕ × ℕ)) (flow : Amounts) (visits : List Visit) (before : ℕ) (visit : Visit) : Type 0 where
  pub within : visit.part < length gains
  pub some : 0 < visit.room
  pub holds : WayHolds gains edges flow visits before visit visit.way

-- a search: no part was visited twice, and each is marked
pub record IsSearch (gains : List ℤ) (edges : List (ℕ × ℕ)) (flow : Amounts) (visits : List Visit) (count : ℕ) (seen : List Bool) : Type 0 where
  pub visit_each : length visits ≡ length gains
  pub seen_each : length seen ≡ length gains
  pub counted : count ≤ count_by (λ mark. mark) seen
  pub apart : (x y : ℕ) → x < count → y < count → part_at visits x ≡ part_at visits y → x ≡ y
  pub marks : (x : ℕ) → x < count → marked seen (part_at visits x) ≡ true
  pub are : (x : ℕ) → x < count → IsVisit gains edges flow visits x (visit_at visits x)

-- all marked parts were visited
abbrev pub AreVisited : List Visit → (count : ℕ) → List Bool → Type 0
AreVisited visits count seen = (part : ℕ) → marked seen part ≡ true → (x : ℕ) × (x < count) × (part_at visits x ≡ part)

-- what was visited and seen stays so, and what is seen more was visited
pub record Grows (visits : List Visit) (count : ℕ) (seen : List Bool) (visits' : List Visit) (count' : ℕ) (seen' : List Bool) : Type 0 where
  pub more : count ≤ count'
  pub same : (x : ℕ) → x < count → visit_at visits' x ≡ visit_at visits x
  pub still : (part : ℕ) → marked seen part ≡ true → marked seen' part ≡ true
  pub visited : AreVisited visits count seen → AreVisited visits' count' seen'

-- all was seen that more could flow to from a part, and as much flows from it to the sink as may
pub record IsExplored (gains : List ℤ) (edges : List (ℕ × ℕ)) (flow : Amounts) (seen : List Bool) (part : ℕ) : Type 0 where
  pub onwards : (i : ℕ) → i < length edges → (slice_index_or edges i (0, 0)).1 ≡ part → marked seen (slice_index_or edges i (0, 0)).0 ≡ true
  pub given_back : (i : ℕ) → i < length edges → (slice_index_or edges i (0, 0)).0 ≡ part → 0 < slice_index flow.arcs i → marked seen (slice_index_or edges i (0, 0)).1 ≡ true
  pub full : slice_index flow.sinks part ≡ negative (gain_at gains part)

-- from the parts of the visits from one to another as much flows to the sink as may
abbrev pub AreFull : List ℤ → Amounts → List Visit → (from to : ℕ) → Type 0
AreFull gains flow visits from to = (x : ℕ) → from ≤ x → x < to → negative (gain_at gains (part_at visits x)) ≤ slice_index flow.sinks (part_at visits x)

-- what more flows along the way of a visit, and from which visit it comes, if it isn't straight from the source
abbrev pub carried : Way → Visit → ℕ → Amounts → Amounts
carried FromSource visit amount flow = flow
carried Onwards visit amount flow = with_arc flow visit.edge (slice_index flow.arcs visit.edge + amount)
carried GivenBack visit amount flow = with_arc flow visit.edge (slice_index flow.arcs visit.edge - amount)

abbrev pub parent_of : Way → Visit → Option ℕ
parent_of FromSource visit = None
parent_of Onwards visit = Some visit.parent
parent_of GivenBack visit = Some visit.parent

-- the way may be taken
abbrev pub CanCarry : Way → Visit → ℕ → Amounts → Type 0
CanCarry FromSource visit amount flow = Unit {0}
CanCarry Onwards visit amount flow = (visit.edge < length flow.arcs) × (slice_index flow.arcs visit.edge + amount < 2 ^ 64)
CanCarry GivenBack visit amount flow = (visit.edge < length flow.arcs) × (amount ≤ slice_index flow.arcs visit.edge)

-- what is still to be moved when so much more flows from a part to the sink: as much more has to flow to one part. Edges on the way to it carry what
-- they did
pub record IsMoving (gains : List ℤ) (edges : List (ℕ × ℕ)) (first flow : Amounts) (visits : List Visit) (count at amount : ℕ) : Type 0 where
  pub low : at < count
  pub room : amount ≤ (visit_at visits at).room
  pub sources : flow.sources ≡ first.sources
  pub sink_each : length flow.sinks ≡ length gains
  pub arc_each : length flow.arcs ≡ length edges
  pub sinks : (part : ℕ) → part < length gains → slice_index flow.sinks part ≤ negative (gain_at gains part)
  pub off : (part : ℕ) → part < length gains → inflow edges flow part + (if part_at visits at == part then amount else 0) ≡ outflow edges flow part
  pub most : (i : ℕ) → slice_index flow.arcs i ≤ sum first.sources + amount
  pub onwards : (x : ℕ) → x ≤ at → (visit_at visits x).way ≡ Onwards → slice_index flow.arcs (visit_at visits x).edge ≤ sum first.sources
  pub given_back : (x : ℕ) → x ≤ at → (visit_at visits x).way ≡ GivenBack → (visit_at visits x).room ≤ slice_index flow.arcs (visit_at visits x).edge

-- a flow that is greater by an amount
pub record IsGreater (gains : List ℤ) (edges : List (ℕ × ℕ)) (flow flow' : Amounts) : Type 0 where
  pub held : IsHeld gains edges flow'
  pub more : sum flow.sources < sum flow'.sources

-- a visit of a part from which more may flow to the sink
pub record IsOpenVisit (gains : List ℤ) (edges : List (ℕ × ℕ)) (flow : Amounts) (visits : List Visit) (count : ℕ) (seen : List Bool) (at : ℕ) : Type 0 where
  pub search : IsSearch gains edges flow visits count seen
  pub low : at < count
  pub open_part : slice_index flow.sinks (part_at visits at) < negative (gain_at gains (part_at visits at))
