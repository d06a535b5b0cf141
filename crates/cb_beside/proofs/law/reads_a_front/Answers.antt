use Rattle.cb_beside.proofs.Laws.{reads}
use Rattle.cb_beside.proofs.law.reads_a_front.Goals as goal

pub returns : goal.returns
returns c = λ machine state is. reads machine state is
