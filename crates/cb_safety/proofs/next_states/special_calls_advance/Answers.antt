use Rattle.cb_safety.proofs.Special.{special_calls_advance}
use Rattle.cb_safety.proofs.next_states.special_calls_advance.Goals as goal

pub returns : goal.returns
returns c = special_calls_advance
