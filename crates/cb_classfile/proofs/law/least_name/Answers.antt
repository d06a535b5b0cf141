use Rattle.cb_classfile.proofs.Laws.{least_stands}
use Rattle.cb_classfile.proofs.law.least_name.Goals as goal

pub returns : goal.returns
returns c = least_stands
