use Rattle.std.proofs.Common.{ℕ, ◌<◌}
use Rattle.cb_cut.specs.Faults.{IsSinkWithin}
use Rattle.cb_cut.proofs.arcs.first_sink_over.Given as goal

abbrev pub invariant-loop-part : goal.invariant-loop-part
invariant-loop-part l = (earlier : ℕ) → earlier < l.part → IsSinkWithin l.gains l.flow earlier
