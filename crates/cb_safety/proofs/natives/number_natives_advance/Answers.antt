use Rattle.cb_safety.proofs.Answering.{numbers_advance}
use Rattle.cb_safety.proofs.natives.number_natives_advance.Goals as goal

pub returns : goal.returns
returns c = numbers_advance
