use Rattle.cb_library.proofs.Rowed.{constructed}
use Rattle.cb_library.proofs.law.four_constructors.Goals as goal

pub returns : goal.returns
returns c = constructed
