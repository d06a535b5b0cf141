use Rattle.cb_safety.proofs.Rooms.{callers_fit}
use Rattle.cb_safety.proofs.room.callers_fit.Goals as goal

pub returns : goal.returns
returns c = callers_fit
