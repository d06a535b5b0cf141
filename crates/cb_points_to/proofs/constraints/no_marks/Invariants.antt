use Rattle.std.proofs.Common.{◌≡◌, false, replicate}
use Rattle.cb_points_to.proofs.constraints.no_marks.Given as goal

abbrev pub invariant-loop-node : goal.invariant-loop-node
invariant-loop-node l = l.marks ≡ replicate l._node false
