use Rattle.cb_safety.proofs.OwnKinds.{own_kinds}
use Rattle.cb_safety.proofs.programs.classes_own_kinds.Goals as goal

pub returns : goal.returns
returns c = own_kinds
