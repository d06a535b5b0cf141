use Rattle.cb_unwind.proofs.InitLaws.{initialised_read}
use Rattle.cb_unwind.proofs.law.initialising_is_read.Goals as goal

pub returns : goal.returns
returns c = λ index held program limit. initialised_read program index held limit
