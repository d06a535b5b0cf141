use Rattle.cb_safety.proofs.EnumNatives.{constants_advance}
use Rattle.cb_safety.proofs.natives.enum_natives_advance.Goals as goal

pub returns : goal.returns
returns c = constants_advance
