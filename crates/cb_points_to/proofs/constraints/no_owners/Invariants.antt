use Rattle.std.proofs.Common.{◌≡◌, None, replicate}
use Rattle.cb_points_to.proofs.constraints.no_owners.Given as goal

abbrev pub invariant-loop-node : goal.invariant-loop-node
invariant-loop-node l = l.owners ≡ replicate l._node None
