use Rattle.cb_safety.proofs.Answering.{answers_advance}
use Rattle.cb_safety.proofs.natives.answer_natives_advance.Goals as goal

pub returns : goal.returns
returns c = answers_advance
