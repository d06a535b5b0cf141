use Rattle.cb_safety.proofs.Stepping.{states_advance}
use Rattle.cb_safety.proofs.next_states.states_advance.Goals as goal

pub returns : goal.returns
returns c = states_advance
