use Rattle.cb_safety.proofs.Rooms.{catchers_fit}
use Rattle.cb_safety.proofs.room.catchers_fit.Goals as goal

pub returns : goal.returns
returns c = catchers_fit
