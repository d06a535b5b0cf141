use Rattle.cb_safety.proofs.MainMethods.{has_main}
use Rattle.cb_safety.proofs.programs.linked_has_main.Goals as goal

pub returns : goal.returns
returns c = has_main
