use Rattle.cb_safety.proofs.NewObject.{new_advances}
use Rattle.cb_safety.proofs.next_states.new_advances.Goals as goal

pub returns : goal.returns
returns c = new_advances
