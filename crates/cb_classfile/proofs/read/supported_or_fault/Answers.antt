use Rattle.cb_classfile.proofs.Answering.{unread_stands}
use Rattle.cb_classfile.proofs.Failing.{handed}
use Rattle.cb_classfile.proofs.read.supported_or_fault.Goals as goal

pub returns-in_err-class : goal.returns-in_err-class
returns-in_err-class c = handed _ _ _ _ c.from_residual.ensures (unread_stands _ _ c.in_err-class.ensures)
