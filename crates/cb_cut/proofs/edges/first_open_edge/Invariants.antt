use Rattle.std.proofs.Common.{ℕ, ◌<◌}
use Rattle.cb_cut.specs.Faults.{KeepsClosed}
use Rattle.cb_cut.proofs.edges.first_open_edge.Given as goal

abbrev pub invariant-loop-i : goal.invariant-loop-i
invariant-loop-i l = (earlier : ℕ) → earlier < l.i → KeepsClosed l.edges l.set earlier
