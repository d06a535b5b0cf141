use Rattle.std.proofs.Common.{◌∙◌, IsTrue, ap, length, subst, sym}
use Rattle.std.specs.List.{AllByRecursion}
use Rattle.cb_plain.specs.declared.want.Want.{Want}
use Rattle.cb_heap.specs.Occupancy.{blocks}
use Rattle.cb_partheap.specs.Heaps.{Heap, settings_in}
use Rattle.cb_collector.specs.Held.{full_by, used_by}
use Rattle.cb_collector.proofs.Collections.{heap_of}
use Rattle.cb_collector.proofs.Rooms.{full_is}
use Rattle.cb_collector.proofs.collector.Collector.full.Goals as goal

pub blocks_asked-requires : goal.blocks_asked-requires
blocks_asked-requires g c = subst (λ (h : Heap). AllByRecursion (λ (want : Want). IsTrue ((settings_in h).knows want.site)) c.args.request.now) (sym (heap_of c.self.view_is)) c.requires

pub returns : goal.returns
returns g c =
    let same = heap_of c.self.view_is in
    full_is c.self.inside.heap c.args.request.now c.live.result c.blocks_asked.result c.min-asked.result c.self.inside.blocks
    (c.live.ensures.live ∙ ap (λ (h : Heap). blocks (length h.memory.words) (used_by h)) (sym same)) c.blocks_asked.ensures c.min-asked.ensures c.self.invariant.blocks_are
    ∙ ap (λ (h : Heap). full_by h c.args.request.now) same
