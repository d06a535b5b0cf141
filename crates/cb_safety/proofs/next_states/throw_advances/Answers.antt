use Rattle.cb_safety.proofs.Throws.{throw_advances}
use Rattle.cb_safety.proofs.next_states.throw_advances.Goals as goal

pub returns : goal.returns
returns c = throw_advances
