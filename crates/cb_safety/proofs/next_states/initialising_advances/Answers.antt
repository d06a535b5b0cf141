use Rattle.cb_safety.proofs.Initialised.{initialising_advances}
use Rattle.cb_safety.proofs.next_states.initialising_advances.Goals as goal

pub returns : goal.returns
returns c = initialising_advances
