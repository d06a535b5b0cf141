use Rattle.cb_collector.proofs.Collections.{heap_of}
use Rattle.cb_collector.proofs.collector.Collector.heap.Goals as goal

pub returns : goal.returns
returns g c = heap_of c.self.view_is
