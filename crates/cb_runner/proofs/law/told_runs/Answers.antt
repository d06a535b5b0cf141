use Rattle.cb_runner.proofs.AtTold.{told_so}
use Rattle.cb_runner.proofs.law.told_runs.Goals as goal

pub returns : goal.returns
returns g c = λ machine given bytes first last count read state is reaches.
    told_so machine given bytes (c.leaves_unread.ensures machine) (c.reads_a_front.ensures machine) c.ends_alike.ensures.asks (c.requests_alike.ensures machine) g.I.Source.left g.I.Source.gave first last count read state is reaches
