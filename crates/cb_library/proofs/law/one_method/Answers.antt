use Rattle.cb_library.proofs.Rowed.{one_method}
use Rattle.cb_library.proofs.law.one_method.Goals as goal

pub returns : goal.returns
returns c = one_method
