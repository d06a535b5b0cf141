use Rattle.cb_partheap.proofs.Asked.{free_of}
use Rattle.cb_partheap.proofs.part_heap.PartHeap.blocks_free.Goals as goal

pub returns-clause-free : goal.returns-clause-free
returns-clause-free c = free_of c.blocks_free.result c.self.invariant c.self.view_is c.blocks_free.ensures.free
