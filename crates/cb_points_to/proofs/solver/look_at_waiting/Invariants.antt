use Rattle.cb_points_to.specs.Looking.{IsSolving}
use Rattle.cb_points_to.specs.Webs.{left}
use Rattle.cb_points_to.proofs.solver.look_at_waiting.Given as goal

abbrev pub invariant-loop-member : goal.invariant-loop-member
invariant-loop-member l = IsSolving l.constraints l.looked l.web

abbrev pub decreases-loop-member : goal.decreases-loop-member
decreases-loop-member l = left l.web
