use Rattle.cb_safety.proofs.Returning.{returns_advance}
use Rattle.cb_safety.proofs.next_states.returns_advance.Goals as goal

pub returns : goal.returns
returns c = returns_advance
