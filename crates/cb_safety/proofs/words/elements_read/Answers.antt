use Rattle.cb_safety.proofs.ArrayWords.{elements_read}
use Rattle.cb_safety.proofs.words.elements_read.Goals as goal

pub returns : goal.returns
returns c = elements_read
