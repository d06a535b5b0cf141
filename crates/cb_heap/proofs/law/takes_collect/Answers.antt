use Rattle.cb_heap.proofs.Laws.{takes_collect}
use Rattle.cb_heap.proofs.law.takes_collect.Goals as goal

pub returns : goal.returns
returns c = takes_collect
