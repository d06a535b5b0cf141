use Rattle.std.proofs.Common.{ℕ, ◌+◌, ◌-◌, ◌<◌, get_or}
use Rattle.cb_points_to.specs.declared.tables.Callee.{Callee}
use Rattle.cb_points_to.proofs.fits.callees_ascend.Given as goal

abbrev pub invariant-loop-at : goal.invariant-loop-at
invariant-loop-at l = (k : ℕ) (d : Callee) → k < l.at - 1 → (get_or l.callees k d).site < (get_or l.callees (k + 1) d).site
