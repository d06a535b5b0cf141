-- First faults, from the first of each kind.
use Rattle.std.proofs.Common.{◌≡◌, ◌∙◌, sym, subst, arith, ℕ, ◌+◌, ◌*◌, ◌-◌, ◌<◌, Bool, true, List, length, Result, Ok, Err}
use Rattle.std.specs.Prelude.{ℤ, IfErr, OnErr}
use Rattle.std.proofs.lemmas.List.Elements.{All-from_get_or}
use Rattle.cb_plain.specs.Amounts.{Amounts}
use Rattle.cb_dag.specs.Closed.{IsClosed, gain}
use Rattle.cb_dag.specs.Flows.{IsCertificate, bound}
use Rattle.cb_dag.specs.Marks.{marked}
use Rattle.cb_cut.specs.Faults.{IsBalanced, IsFirstFault, IsFirstNot, IsSinkWithin, IsSourceWithin, IsUnequal, IsWithinCapacity, KeepsClosed}
use Rattle.cb_cut.specs.declared.fault.CutFault.{CutFault}
use Rattle.cb_cut.specs.declared.fault.CutFault.TheVariants.{NotClosed, OverCapacity, Unbalanced, Unequal}

pub closed_from : (edges : List (ℕ × ℕ)) (set : List Bool) → ((i : ℕ) → i < length edges → KeepsClosed edges set i) → IsClosed edges set
closed_from edges set keeps = All-from_get_or (λ edge. marked set edge.1 ≡ true → marked set edge.0 ≡ true) edges (0, 0) keeps

pub capacities : (gains : List ℤ) (flow : Amounts) → ((i : ℕ) → i < length gains → IsSourceWithin gains flow i) → ((i : ℕ) → i < length gains → IsSinkWithin gains flow i)
    → (arc : ℕ) → arc < 2 * length gains → IsWithinCapacity gains flow arc
capacities gains flow sources sinks arc low = (λ early. sources arc early, λ late. sinks (arc - length gains) (omega (arith, low, late)))

pub source_over : (gains : List ℤ) (flow : Amounts) (arc : ℕ) → IsFirstNot (IsSourceWithin gains flow) (length gains) arc → IsFirstNot (IsWithinCapacity gains flow) (2 * length gains) arc
source_over gains flow arc first = record {
  within = omega (arith, first.within);
  broken = λ fine. first.broken (fine.0 first.within);
  before = λ earlier low. (λ early. first.before earlier low, λ late. absurd (omega (arith, late, low, first.within)));
}

pub sink_over : (gains : List ℤ) (flow : Amounts) (parts part : ℕ) → length gains ≡ parts → ((i : ℕ) → i < length gains → IsSourceWithin gains flow i)
    → IsFirstNot (IsSinkWithin gains flow) (length gains) part → IsFirstNot (IsWithinCapacity gains flow) (2 * length gains) (parts + part)
sink_over gains flow parts part each sources first = record {
  within = omega (arith, first.within, each);
  broken = λ fine. first.broken (subst (IsSinkWithin gains flow) (let at : (parts + part) - length gains ≡ part = omega (arith, each) in at) (fine.1 (omega (arith, each))));
  before = λ earlier low. (λ early. sources earlier early, λ late. first.before (earlier - length gains) (omega (arith, late, low, each)));
}

module _ (gains : List ℤ) (edges : List (ℕ × ℕ)) (set : List Bool) (flow : Amounts) where
  -- a fault that comes first is no certificate's
  pub refuses : (fault : CutFault) → IsFirstFault gains edges set flow fault → IsCertificate gains edges set flow → ⊥
  refuses (NotClosed edge) first shown = first.broken (shown.is_set.closed edge (0, 0) first.within)
  refuses (OverCapacity arc) first shown =
      first.1.broken (λ early. shown.is_flow.sources arc early, λ late. shown.is_flow.sinks (arc - length gains) (omega (arith, late, first.1.within)))
  refuses (Unbalanced part) first shown = first.2.broken (shown.is_flow.balanced part first.2.within)
  refuses (Unequal gained most) first shown = first.5 (first.3 ∙ shown.reached ∙ sym first.4)

  pub refused : (result : Result (Unit {0}) CutFault) → IfErr result (IsFirstFault gains edges set flow) → OnErr result (IsCertificate gains edges set flow → ⊥)
  refused (Ok done) first = tt
  refused (Err fault) first = refuses fault first

  -- the sums come last
  module _ (closed : IsClosed edges set) (within : (arc : ℕ) → arc < 2 * length gains → IsWithinCapacity gains flow arc) (balanced : (part : ℕ) → part < length gains → IsBalanced edges flow part) where
    pub unequal : (result : Result (Unit {0}) CutFault) → IfErr result (IsUnequal gains set flow) → IfErr result (IsFirstFault gains edges set flow)
    unequal (Ok done) other = tt
    unequal (Err (NotClosed edge)) other = absurd other
    unequal (Err (OverCapacity arc)) other = absurd other
    unequal (Err (Unbalanced part)) other = absurd other
    unequal (Err (Unequal gained most)) other = (closed, within, balanced, other.0, other.1, other.2)

    pub shown : length set ≡ length gains → length flow.sources ≡ length gains → length flow.sinks ≡ length gains → length flow.arcs ≡ length edges
        → gain gains set ≡ bound gains flow → IsCertificate gains edges set flow
    shown set_each source_each sink_each arc_each same = record {
      is_set = record { each = set_each; closed = closed };
      is_flow = record {
        source_each = source_each;
        sink_each = sink_each;
        arc_each = arc_each;
        sources = λ part low. (within part (omega (arith, low))).0 low;
        sinks = λ part low.
            subst (IsSinkWithin gains flow) (let at : (length gains + part) - length gains ≡ part = omega arith in at) ((within (length gains + part) (omega (arith, low))).1 (omega arith));
        balanced = balanced;
      };
      reached = same;
    }
