use Rattle.std.proofs.Common.{ℕ, ◌<◌}
use Rattle.cb_cut.specs.Faults.{IsSourceWithin}
use Rattle.cb_cut.proofs.arcs.first_source_over.Given as goal

abbrev pub invariant-loop-part : goal.invariant-loop-part
invariant-loop-part l = (earlier : ℕ) → earlier < l.part → IsSourceWithin l.gains l.flow earlier
