use Rattle.cb_safety.proofs.ArrayWords.{references_are_written}
use Rattle.cb_safety.proofs.words.references_are_written.Goals as goal

pub returns : goal.returns
returns c = references_are_written
