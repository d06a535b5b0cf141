use Rattle.cb_safety.proofs.Constructing.{constructor_calls_advance}
use Rattle.cb_safety.proofs.next_states.constructor_calls_advance.Goals as goal

pub returns : goal.returns
returns c = constructor_calls_advance
