use Rattle.cb_classfile.proofs.OneClass.{one_class_spelled}
use Rattle.cb_classfile.proofs.law.one_class.Goals as goal

pub returns : goal.returns
returns c = one_class_spelled
