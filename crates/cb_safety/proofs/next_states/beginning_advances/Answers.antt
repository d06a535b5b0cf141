use Rattle.cb_safety.proofs.Main.{beginning_advances}
use Rattle.cb_safety.proofs.next_states.beginning_advances.Goals as goal

pub returns : goal.returns
returns c = beginning_advances
