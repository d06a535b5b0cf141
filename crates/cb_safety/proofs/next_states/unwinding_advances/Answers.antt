use Rattle.cb_safety.proofs.Unwinding.{unwinding_advances}
use Rattle.cb_safety.proofs.next_states.unwinding_advances.Goals as goal

pub returns : goal.returns
returns c = unwinding_advances
