use Rattle.std.proofs.Common.{ap, length, subst, ◌∙◌}
use Rattle.cb_partheap.specs.Heaps.{Heap}
use Rattle.cb_partheap.specs.Whole.{IsHeap}
use Rattle.cb_partheap.proofs.part_heap.PartHeap.parts.Goals as goal

pub returns : goal.returns
returns c = c.nodes.ensures.nodes ∙ ap (λ (heap : Heap). length heap.edges) c.self.view_is ∙ (subst IsHeap c.self.view_is c.self.invariant).grid
