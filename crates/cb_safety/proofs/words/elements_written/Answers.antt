use Rattle.cb_safety.proofs.ArrayWords.{elements_written}
use Rattle.cb_safety.proofs.words.elements_written.Goals as goal

pub returns : goal.returns
returns c = elements_written
