use Rattle.cb_safety.proofs.Initialisers.{has_initialisers}
use Rattle.cb_safety.proofs.programs.linked_has_initialisers.Goals as goal

pub returns : goal.returns
returns c = has_initialisers
