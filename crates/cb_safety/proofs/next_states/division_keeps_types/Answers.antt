use Rattle.cb_safety.proofs.Dividing.{division_typed}
use Rattle.cb_safety.proofs.next_states.division_keeps_types.Goals as goal

pub returns : goal.returns
returns c = division_typed
