use Rattle.cb_safety.proofs.LinkedCalls.{linked_special_calls_advance}
use Rattle.cb_safety.proofs.next_states.linked_special_calls_advance.Goals as goal

pub returns : goal.returns
returns c = linked_special_calls_advance
