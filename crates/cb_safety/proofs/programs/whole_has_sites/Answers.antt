use Rattle.cb_safety.proofs.Sited.{has_sites}
use Rattle.cb_safety.proofs.programs.whole_has_sites.Goals as goal

pub returns : goal.returns
returns c = has_sites
