use Rattle.cb_safety.proofs.StaticWords.{statics_read}
use Rattle.cb_safety.proofs.words.statics_read.Goals as goal

pub returns : goal.returns
returns c = statics_read
