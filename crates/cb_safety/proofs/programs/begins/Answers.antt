use Rattle.cb_safety.proofs.Beginning.{method_begins}
use Rattle.cb_safety.proofs.programs.begins.Goals as goal

pub returns : goal.returns
returns c = method_begins
