use Rattle.cb_safety.proofs.Ready.{linked_advance}
use Rattle.cb_safety.proofs.next_states.linked_objects_advance.Goals as goal

pub returns : goal.returns
returns c = linked_advance
