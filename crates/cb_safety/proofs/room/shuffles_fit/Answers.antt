use Rattle.cb_safety.proofs.Pushes.{shuffles_fit}
use Rattle.cb_safety.proofs.room.shuffles_fit.Goals as goal

pub returns : goal.returns
returns c = shuffles_fit
