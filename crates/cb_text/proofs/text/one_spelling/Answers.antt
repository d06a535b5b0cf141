use Rattle.cb_text.proofs.Spelling.{text_same}
use Rattle.cb_text.proofs.text.one_spelling.Goals as goal

pub returns : goal.returns
returns c = text_same
