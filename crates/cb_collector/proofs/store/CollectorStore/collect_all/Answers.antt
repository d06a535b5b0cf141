use Rattle.std.proofs.Common.{refl}
use Rattle.cb_collector.specs.Held.{standing_in}
use Rattle.cb_collector.proofs.Collections.{same_faults}
use Rattle.cb_collector.proofs.store.CollectorStore.collect_all.Goals as goal

pub take_all-requires : goal.take_all-requires
take_all-requires g c = c.requires.closed

pub returns-clause-collected : goal.returns-clause-collected
returns-clause-collected g c = c.take_all.ensures.kept

pub returns-clause-limit : goal.returns-clause-limit
returns-clause-limit g c = c.take_all.ensures.limit

pub returns-clause-ruled : goal.returns-clause-ruled
returns-clause-ruled g c = record { behind = standing_in g.K.Sink.taken c.take_all.new.self c.take_all.new.roots.roots; takes = c.take_all.ensures.takes; known_is = refl; residents_are = refl }

pub returns-clause-refused : goal.returns-clause-refused
returns-clause-refused g c = λ err. absurd (cc err)

pub returns-clause-granted : goal.returns-clause-granted
returns-clause-granted g c = c.take_all.ensures.granted

pub returns-clause-counted : goal.returns-clause-counted
returns-clause-counted g c = same_faults g.K.Sink.faults c.args.self.now.output c.take_all.new.self.output _ c.take_all.ensures.output (λ is. cc is)

pub returns-clause-settings : goal.returns-clause-settings
returns-clause-settings g c = c.take_all.ensures.settings
