use Rattle.cb_safety.proofs.OnStack.{fields_read}
use Rattle.cb_safety.proofs.words.fields_read.Goals as goal

pub returns : goal.returns
returns c = fields_read
