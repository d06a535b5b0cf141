use Rattle.std.proofs.Common.{arith}
use Rattle.cb_mapheap.proofs.Calls.{count_now}
use Rattle.cb_mapheap.proofs.map_heap.MapHeap.grant.Goals as goal

pub returns-clause-serials : goal.returns-clause-serials
returns-clause-serials c =
    let count = count_now c.self.inside.starts.items c.self.inside.words.items c.self.view_is in
    omega (arith, count, c.in-Some.ensures, c.if-saturating_add-ge-MOST_OBJECTS.false, c.saturating_add.ensures, c.self.inside.starts.ok)
