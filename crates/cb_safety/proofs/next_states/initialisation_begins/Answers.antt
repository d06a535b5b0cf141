use Rattle.cb_safety.proofs.Begun.{initialisation_begins}
use Rattle.cb_safety.proofs.next_states.initialisation_begins.Goals as goal

pub returns : goal.returns
returns c = initialisation_begins
