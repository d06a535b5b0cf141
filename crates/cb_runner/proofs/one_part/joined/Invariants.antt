use Rattle.cb_runner.proofs.Joined.{AreJoined}
use Rattle.cb_runner.proofs.one_part.joined.Given as goal

abbrev pub invariant-loop-node : goal.invariant-loop-node
invariant-loop-node l = AreJoined l.nodes l.node l.grid
