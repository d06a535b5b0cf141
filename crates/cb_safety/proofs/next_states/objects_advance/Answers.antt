use Rattle.cb_safety.proofs.Objects.{objects_advance}
use Rattle.cb_safety.proofs.next_states.objects_advance.Goals as goal

pub returns : goal.returns
returns c = objects_advance
