use Rattle.std.proofs.Common.{◌≡◌, ◌-◌, length}
use Rattle.cb_dag.specs.Search.{IsCopy, part_place}
use Rattle.cb_dag.proofs.edges.join_row.Given as goal

abbrev pub invariant-loop-other : goal.invariant-loop-other
invariant-loop-other l = (length l.joined ≡ length l.fn.joined) × IsCopy l.grid l.joined (length l.fn.joined) (part_place l.part_of) l.node l.from

abbrev pub decreases-loop-other : goal.decreases-loop-other
decreases-loop-other l = length l.grid - l.from
