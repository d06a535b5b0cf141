use Rattle.cb_safety.proofs.StaticFields.{statics_advance}
use Rattle.cb_safety.proofs.next_states.statics_advance.Goals as goal

pub returns : goal.returns
returns c = statics_advance
