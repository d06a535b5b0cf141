use Rattle.cb_safety.proofs.Superclasses.{goes_above}
use Rattle.cb_safety.proofs.programs.classes_go_above.Goals as goal

pub returns : goal.returns
returns c = goes_above
