use Rattle.cb_heap.proofs.Laws.{keeps_reached}
use Rattle.cb_heap.proofs.law.keeps_reached.Goals as goal

pub returns : goal.returns
returns c = keeps_reached
