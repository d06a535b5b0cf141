use Rattle.cb_safety.proofs.Parts.{arrays_hold}
use Rattle.cb_safety.proofs.programs.arrays_hold_elements.Goals as goal

pub returns : goal.returns
returns c = arrays_hold
