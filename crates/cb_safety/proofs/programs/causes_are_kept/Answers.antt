use Rattle.cb_safety.proofs.Causes.{keeps_cause}
use Rattle.cb_safety.proofs.programs.causes_are_kept.Goals as goal

pub returns : goal.returns
returns c = keeps_cause
