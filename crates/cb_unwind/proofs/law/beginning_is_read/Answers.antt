use Rattle.cb_heap.proofs.Laws.{reads_room}
use Rattle.cb_unwind.proofs.BegunLaws.{begun_read}
use Rattle.cb_unwind.proofs.law.beginning_is_read.Goals as goal

pub returns : goal.returns
returns c = record {
  begun = λ index held program class. begun_read program index held class;
  room = λ index held limit slots. reads_room index held limit slots;
}
