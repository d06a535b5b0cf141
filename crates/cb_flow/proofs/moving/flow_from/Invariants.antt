use Rattle.std.proofs.Common.{◌≡◌, ◌-◌, length, sum, sum_by}
use Rattle.cb_dag.specs.Flows.{positive}
use Rattle.cb_flow.specs.Networks.{IsHeld}
use Rattle.cb_flow.proofs.moving.flow_from.Given as goal

abbrev pub invariant-loop-at : goal.invariant-loop-at
invariant-loop-at l = IsHeld l.gains l.graph.edges l.flow × (length l.search.visits.items ≡ length l.gains) × (length l.search.seen.items ≡ length l.gains)

abbrev pub decreases-loop-at : goal.decreases-loop-at
decreases-loop-at l = sum_by positive l.gains - sum l.flow.sources
