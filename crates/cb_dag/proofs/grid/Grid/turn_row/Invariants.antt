use Rattle.std.proofs.Common.{length, ◌-◌}
use Rattle.cb_dag.specs.Search.{IsCopy, turned_place}
use Rattle.cb_dag.proofs.grid.Grid.turn_row.Given as goal

abbrev pub invariant-loop-other : goal.invariant-loop-other
invariant-loop-other l = IsCopy l.self l.turned (length l.self) turned_place l.node l.from

abbrev pub decreases-loop-other : goal.decreases-loop-other
decreases-loop-other l = length l.self - l.from
