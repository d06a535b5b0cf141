use Rattle.cb_safety.proofs.Constants.{constants_advance}
use Rattle.cb_safety.proofs.next_states.constants_advance.Goals as goal

pub returns : goal.returns
returns c = constants_advance
