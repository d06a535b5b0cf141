use Rattle.cb_beside.proofs.Laws.{asks_alike}
use Rattle.cb_beside.proofs.law.requests_alike.Goals as goal

pub returns : goal.returns
returns c = λ machine state. asks_alike machine state
