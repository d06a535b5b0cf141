use Rattle.cb_flow.specs.Visits.{IsMoving}
use Rattle.cb_flow.proofs.moving.flow_along.Given as goal

abbrev pub invariant-loop-parent : goal.invariant-loop-parent
invariant-loop-parent l = IsMoving l.gains l.graph.edges l.fn.flow l.flow l.search.visits.items l.search.count l.at l.amount

abbrev pub decreases-loop-parent : goal.decreases-loop-parent
decreases-loop-parent l = l.at
