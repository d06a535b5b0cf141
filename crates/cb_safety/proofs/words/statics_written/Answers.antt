use Rattle.cb_safety.proofs.StaticWords.{statics_written}
use Rattle.cb_safety.proofs.words.statics_written.Goals as goal

pub returns : goal.returns
returns c = statics_written
