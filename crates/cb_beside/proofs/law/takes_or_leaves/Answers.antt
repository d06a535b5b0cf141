use Rattle.cb_beside.proofs.Laws.{unread_or_takes}
use Rattle.cb_beside.proofs.law.takes_or_leaves.Goals as goal

pub returns : goal.returns
returns c = λ machine state. unread_or_takes machine state
