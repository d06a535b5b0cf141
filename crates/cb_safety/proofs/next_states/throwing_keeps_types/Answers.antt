use Rattle.cb_safety.proofs.Throwing.{throws_typed}
use Rattle.cb_safety.proofs.next_states.throwing_keeps_types.Goals as goal

pub returns : goal.returns
returns c = throws_typed
