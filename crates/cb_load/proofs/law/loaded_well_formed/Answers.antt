use Rattle.cb_load.proofs.LoadFormed.{loaded_formed}
use Rattle.cb_load.proofs.law.loaded_well_formed.Goals as goal

pub returns : goal.returns
returns c = loaded_formed
