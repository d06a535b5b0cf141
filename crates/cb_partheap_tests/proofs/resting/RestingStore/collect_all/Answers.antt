use Rattle.cb_partheap_tests.proofs.Rests.{rests}
use Rattle.cb_partheap_tests.proofs.resting.RestingStore.collect_all.Goals as goal

pub returns-clause-collected : goal.returns-clause-collected
returns-clause-collected c = rests _ c.requires.closed
