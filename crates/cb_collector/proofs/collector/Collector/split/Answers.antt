use Rattle.cb_collector.proofs.Collections.{heap_of, output_of}
use Rattle.cb_collector.proofs.collector.Collector.split.Goals as goal

pub returns-clause-heap : goal.returns-clause-heap
returns-clause-heap g c = heap_of c.self.view_is

pub returns-clause-output : goal.returns-clause-output
returns-clause-output g c = output_of c.self.view_is
