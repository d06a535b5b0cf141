use Rattle.cb_collector.proofs.Collections.{tally_of}
use Rattle.cb_collector.proofs.collector.Collector.tally.Goals as goal

pub returns : goal.returns
returns g c = tally_of c.self.view_is
