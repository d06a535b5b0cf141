use Rattle.cb_safety.proofs.MakingArrays.{arrays_made_advance}
use Rattle.cb_safety.proofs.next_states.arrays_made_advance.Goals as goal

pub returns : goal.returns
returns c = arrays_made_advance
