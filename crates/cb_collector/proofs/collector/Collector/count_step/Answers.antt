use Rattle.cb_collector.proofs.Collections.{counted_now, still_asked}
use Rattle.cb_collector.proofs.collector.Collector.count_step.Goals as goal

pub invariant_of-self : goal.invariant_of-self
invariant_of-self g c = still_asked _ c.with_step-self-inside.result c.self.inside.blocks c.self.inside.all c.self.invariant

pub returns : goal.returns
returns g c = counted_now c.with_step-self-inside.result c.self.view_is c.with_step-self-inside.ensures
