use Rattle.cb_safety.proofs.Texts.{texts_advance}
use Rattle.cb_safety.proofs.natives.text_natives_advance.Goals as goal

pub returns : goal.returns
returns c = texts_advance
