use Rattle.cb_safety.proofs.StaticCalls.{linked_static_calls_advance}
use Rattle.cb_safety.proofs.next_states.linked_static_calls_advance.Goals as goal

pub returns : goal.returns
returns c = linked_static_calls_advance
