use Rattle.std.proofs.Common.{◌≡◌, length}
use Rattle.cb_graph_cases.proofs.choice.choose_again.Given as goal

abbrev pub invariant-loop : goal.invariant-loop
invariant-loop l = (l.chooser.parts ≡ l.initial.chooser.parts) × (l.chooser.edges ≡ l.initial.chooser.edges) × (length l.set ≡ l.chooser.parts)
