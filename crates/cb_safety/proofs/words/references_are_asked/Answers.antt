use Rattle.cb_safety.proofs.Asked.{references_are_asked}
use Rattle.cb_safety.proofs.words.references_are_asked.Goals as goal

pub returns : goal.returns
returns c = references_are_asked
