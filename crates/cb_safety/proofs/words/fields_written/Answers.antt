use Rattle.cb_safety.proofs.OnStack.{fields_written}
use Rattle.cb_safety.proofs.words.fields_written.Goals as goal

pub returns : goal.returns
returns c = fields_written
