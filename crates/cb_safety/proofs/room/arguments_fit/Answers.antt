use Rattle.cb_safety.proofs.Arguments.{arguments_fit}
use Rattle.cb_safety.proofs.room.arguments_fit.Goals as goal

pub returns : goal.returns
returns c = arguments_fit
