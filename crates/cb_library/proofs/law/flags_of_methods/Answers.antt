use Rattle.cb_library.proofs.Rowed.{flagged}
use Rattle.cb_library.proofs.law.flags_of_methods.Goals as goal

pub returns : goal.returns
returns c = flagged
