use Rattle.cb_safety.proofs.Lettered.{whole_holds_own}
use Rattle.cb_safety.proofs.programs.kinds_hold_own.Goals as goal

pub returns : goal.returns
returns c = whole_holds_own
