use Rattle.cb_partheap.proofs.Takes as takes
use Rattle.cb_partheap.proofs.law.marks_take.Goals as goal

pub returns : goal.returns
returns c = takes.marks_take
