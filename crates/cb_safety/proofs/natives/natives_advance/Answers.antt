use Rattle.cb_safety.proofs.EveryNative.{natives_advance}
use Rattle.cb_safety.proofs.natives.natives_advance.Goals as goal

pub returns : goal.returns
returns c = natives_advance
