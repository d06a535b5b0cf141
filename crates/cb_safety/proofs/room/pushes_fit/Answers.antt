use Rattle.cb_safety.proofs.Pushes.{pushes_fit}
use Rattle.cb_safety.proofs.room.pushes_fit.Goals as goal

pub returns : goal.returns
returns c = pushes_fit
