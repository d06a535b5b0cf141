use Rattle.cb_partheap.proofs.Unmarked as unmarked
use Rattle.cb_partheap.proofs.law.stay_unmarked.Goals as goal

pub returns : goal.returns
returns c = unmarked.stay_unmarked
