use Rattle.std.proofs.Common.{◌≡◌, length}
use Rattle.cb_dag.specs.Search.{IsCopy, part_place}
use Rattle.cb_dag.proofs.edges.between_parts.Given as goal

abbrev pub invariant-loop-node : goal.invariant-loop-node
invariant-loop-node l = (length l.joined ≡ l.parts) × IsCopy l.grid l.joined l.parts (part_place l.part_of) l.node 0
