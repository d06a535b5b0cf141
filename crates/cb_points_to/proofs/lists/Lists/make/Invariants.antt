use Rattle.std.proofs.Common.{◌≡◌, [], replicate}
use Rattle.cb_points_to.proofs.lists.Lists.make.Given as goal

abbrev pub invariant-loop-row : goal.invariant-loop-row
invariant-loop-row g l = l.rows.items ≡ replicate l._row []
