use Rattle.cb_safety.proofs.Unwound.{linked_unwinding_advances}
use Rattle.cb_safety.proofs.next_states.linked_unwinding_advances.Goals as goal

pub returns : goal.returns
returns c = linked_unwinding_advances
