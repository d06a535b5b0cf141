use Rattle.std.proofs.Common.{ℕ, ◌<◌}
use Rattle.cb_cut.specs.Faults.{IsBalanced}
use Rattle.cb_cut.proofs.balance.first_unbalanced.Given as goal

abbrev pub invariant-loop-part : goal.invariant-loop-part
invariant-loop-part l = (earlier : ℕ) → earlier < l.part → IsBalanced l.dag.edges l.flow earlier
