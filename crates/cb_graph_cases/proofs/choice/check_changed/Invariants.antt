use Rattle.std.proofs.Common.{◌≡◌, length}
use Rattle.cb_graph_cases.proofs.choice.check_changed.Given as goal

abbrev pub invariant-loop-change : goal.invariant-loop-change
invariant-loop-change l = (length l.flow.sources ≡ l.parts) × (length l.flow.sinks ≡ l.parts) × (length l.flow.arcs ≡ l.edges) × (length l.set ≡ l.parts)
