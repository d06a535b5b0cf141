use Rattle.cb_safety.proofs.Closed.{typed_states_are_closed}
use Rattle.cb_safety.proofs.kept.typed_states_are_closed.Goals as goal

pub returns : goal.returns
returns c = typed_states_are_closed
