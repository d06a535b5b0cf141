use Rattle.std.proofs.Common.{◌≡◌, ◌∙◌, ◌-◌, ap, arith, length}
use Rattle.cb_heap.specs.Occupancy.{blocks}
use Rattle.cb_partheap.specs.Heaps.{Heap}
use Rattle.cb_collector.specs.Held.{used_by}
use Rattle.cb_collector.proofs.Collections.{heap_of, ready_of}
use Rattle.cb_collector.proofs.collector.Collector.live.Goals as goal

pub overflow_sub-result : goal.overflow_sub-result
overflow_sub-result g c = omega (arith, c.blocks_free.ensures.free, c.self.invariant.blocks_are)

pub returns-clause-live : goal.returns-clause-live
returns-clause-live g c =
    (let here : c.self.inside.blocks - c.blocks_free.result ≡ blocks (length c.self.inside.heap.memory.words) (used_by c.self.inside.heap) = omega (arith, c.blocks_free.ensures.free, c.self.invariant.blocks_are) in here)
    ∙ ap (λ (h : Heap). blocks (length h.memory.words) (used_by h)) (heap_of c.self.view_is)

pub returns-clause-ready : goal.returns-clause-ready
returns-clause-ready g c = ready_of c.self.inside.blocks c.self.inside.all c.self.view_is c.self.invariant
