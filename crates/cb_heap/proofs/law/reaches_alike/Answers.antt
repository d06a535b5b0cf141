use Rattle.cb_heap.proofs.Laws.{reached_alike}
use Rattle.cb_heap.proofs.law.reaches_alike.Goals as goal

pub returns : goal.returns
returns c = reached_alike
