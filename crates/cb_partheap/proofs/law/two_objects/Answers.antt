use Rattle.cb_partheap.proofs.Tells as tells
use Rattle.cb_partheap.proofs.law.two_objects.Goals as goal

pub returns : goal.returns
returns c = tells.two_objects
