use Rattle.cb_safety.proofs.ArrayNatives.{arrays_advance}
use Rattle.cb_safety.proofs.natives.array_natives_advance.Goals as goal

pub returns : goal.returns
returns c = arrays_advance
