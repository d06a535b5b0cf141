use Rattle.cb_safety.proofs.Outside.{outside_advances}
use Rattle.cb_safety.proofs.natives.outside_natives_advance.Goals as goal

pub returns : goal.returns
returns c = outside_advances
