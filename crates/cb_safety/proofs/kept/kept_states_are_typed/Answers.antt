use Rattle.cb_safety.proofs.KeptStates.{kept_states_are_typed}
use Rattle.cb_safety.proofs.kept.kept_states_are_typed.Goals as goal

pub returns : goal.returns
returns c = kept_states_are_typed
