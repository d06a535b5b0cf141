use Rattle.cb_unwind.proofs.InitLaws.{initialising_so}
use Rattle.cb_unwind.proofs.law.initialising_as_said.Goals as goal

pub returns : goal.returns
returns c = λ machine state class place below frames numbers. initialising_so machine state class place below frames numbers
