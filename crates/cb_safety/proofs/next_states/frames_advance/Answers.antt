use Rattle.cb_safety.proofs.Advancing.{frames_advance}
use Rattle.cb_safety.proofs.next_states.frames_advance.Goals as goal

pub returns : goal.returns
returns c = frames_advance
