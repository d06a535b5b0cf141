use Rattle.cb_slide.proofs.Collects as collects
use Rattle.cb_slide.proofs.law.both_collect.Goals as goal

pub returns : goal.returns
returns c = collects.both_collect
