use Rattle.cb_classfile.proofs.Facts.{some_words}
use Rattle.cb_classfile.proofs.constants.Constants.is_method_descriptor.Goals as goal

pub returns : goal.returns
returns c = rw c.is_some.ensures (some_words _ _ c.parameter_words.ensures.words)
