use Rattle.std.proofs.Common.{length}
use Rattle.cb_dag.specs.Search.{IsCopy, turned_place}
use Rattle.cb_dag.proofs.grid.Grid.turned.Given as goal

abbrev pub invariant-loop-node : goal.invariant-loop-node
invariant-loop-node l = IsCopy l.self l.turned (length l.self) turned_place l.node 0
