use Rattle.std.proofs.Common.{length}
use Rattle.cb_dag.specs.Search.{IsGathering, roots_left}
use Rattle.cb_dag.proofs.roots.gather.Given as goal

abbrev pub invariant-loop-node : goal.invariant-loop-node
invariant-loop-node l = IsGathering l.grid l.fn.roots.items l.roots.items l.root l.waiting (length l.grid) 0

abbrev pub decreases-loop-node : goal.decreases-loop-node
decreases-loop-node l = roots_left (length l.grid) l.roots.items l.waiting
