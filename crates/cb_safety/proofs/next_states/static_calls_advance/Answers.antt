use Rattle.cb_safety.proofs.Invoking.{static_calls_advance}
use Rattle.cb_safety.proofs.next_states.static_calls_advance.Goals as goal

pub returns : goal.returns
returns c = static_calls_advance
