use Rattle.cb_beside.proofs.Laws.{says}
use Rattle.cb_beside.proofs.law.prints_behind.Goals as goal

pub returns : goal.returns
returns c = λ machine state. says machine state
