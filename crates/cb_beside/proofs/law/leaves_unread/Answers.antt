use Rattle.cb_beside.proofs.Laws.{unread}
use Rattle.cb_beside.proofs.law.leaves_unread.Goals as goal

pub returns : goal.returns
returns c = λ machine state is. unread machine state is
