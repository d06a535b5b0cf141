use Rattle.cb_runner.proofs.Laws.{ends_none, none_ends}
use Rattle.cb_runner.proofs.law.usage_exactly.Goals as goal

pub returns : goal.returns
returns g c = λ words files first last ending ends.
    (ends_none g.I.Source.left g.I.Source.gave words files first last ending ends, none_ends g.I.Source.left g.I.Source.gave words files first last ending ends)
