use Rattle.cb_partheap.proofs.Tells as tells
use Rattle.cb_partheap.proofs.law.headers_tell.Goals as goal

pub returns : goal.returns
returns c = tells.headers_tell
