use Rattle.cb_safety.proofs.Exceptions.{are_thrown}
use Rattle.cb_safety.proofs.programs.exceptions_are_thrown.Goals as goal

pub returns : goal.returns
returns c = are_thrown
