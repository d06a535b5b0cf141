use Rattle.cb_partheap.proofs.Asked.{asked_of}
use Rattle.cb_partheap.proofs.part_heap.PartHeap.blocks_asked.Goals as goal

pub returns : goal.returns
returns c = asked_of c.args.request.now c.blocks_more.result c.self.invariant c.self.view_is c.blocks_more.ensures
