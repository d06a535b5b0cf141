use Rattle.cb_safety.proofs.Starting.{start_is_typed}
use Rattle.cb_safety.proofs.next_states.start_is_typed.Goals as goal

pub returns : goal.returns
returns c = start_is_typed
