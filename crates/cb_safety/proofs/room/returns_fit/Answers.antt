use Rattle.cb_safety.proofs.Pushes.{returns_fit}
use Rattle.cb_safety.proofs.room.returns_fit.Goals as goal

pub returns : goal.returns
returns c = returns_fit
