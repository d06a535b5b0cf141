use Rattle.std.proofs.Common.{refl}
use Rattle.cb_mapheap.proofs.Calls.{collects_same}
use Rattle.cb_mapheap.proofs.map_heap.MapHeapStore.collect_all.Goals as goal

pub returns-clause-collected : goal.returns-clause-collected
returns-clause-collected c = collects_same c.args.self.now.objects c.args.self.now.objects c.args.roots.now.roots refl c.requires.closed
