use Rattle.cb_partheap.proofs.Tells as tells
use Rattle.cb_partheap.proofs.law.places_tell.Goals as goal

pub returns : goal.returns
returns c = tells.places_tell
