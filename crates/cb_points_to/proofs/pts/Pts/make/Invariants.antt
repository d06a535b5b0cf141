use Rattle.std.proofs.Common.{◌≡◌, false, replicate}
use Rattle.cb_points_to.proofs.pts.Pts.make.Given as goal

abbrev pub invariant-loop-node : goal.invariant-loop-node
invariant-loop-node l = l.rows.items ≡ replicate l._node (replicate l.sites false)
