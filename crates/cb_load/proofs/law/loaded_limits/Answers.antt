use Rattle.cb_load.proofs.LoadLimits.{loaded_few, loaded_short}
use Rattle.cb_load.proofs.law.loaded_limits.Goals as goal

pub returns : goal.returns
returns c = record { few = loaded_few; short = loaded_short }
