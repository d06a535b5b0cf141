use Rattle.std.proofs.Common.{◌≡◌, [], replicate, take}
use Rattle.cb_dag.specs.Places.{AreEdgesAt}
use Rattle.cb_dag.proofs.ends.edges_by_end.Given as goal

abbrev pub invariant-loop-part : goal.invariant-loop-part
invariant-loop-part l = l.lists.items ≡ replicate l._part []

abbrev pub invariant-loop-index : goal.invariant-loop-index
invariant-loop-index l = AreEdgesAt l.end l.parts (take l.index l.edges) l.lists.items
