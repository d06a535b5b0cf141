use Rattle.cb_collector.proofs.Best.{none_alone}
use Rattle.cb_collector.proofs.law.none_is_best.Goals as goal

pub returns : goal.returns
returns c known code within = none_alone known code within c.all_and_none_are_closed.ensures.nothing
