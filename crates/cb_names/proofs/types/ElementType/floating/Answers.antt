use Rattle.std.proofs.Common.{sym}
use Rattle.cb_names.proofs.FloatingParts.{class_none}
use Rattle.cb_names.proofs.types.ElementType.floating.Goals as goal

pub returns-in-Class : goal.returns-in-Class
returns-in-Class c = rw c.in-Class.is (sym (class_none _ (rw c.in-Class.is at c.requires)))
