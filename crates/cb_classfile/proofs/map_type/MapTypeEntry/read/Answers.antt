use Rattle.std.proofs.Common.{rules}
use Rattle.cb_classfile.proofs.Failing.{handed}
use Rattle.cb_classfile.proofs.Framing.{tag_stands, object_behind, uninitialized_behind}
use Rattle.cb_classfile.proofs.map_type.MapTypeEntry.read.Goals as goal

pub returns-in_err-tag : goal.returns-in_err-tag
returns-in_err-tag c = handed _ _ _ _ c.from_residual.ensures (λ type rest begins. c.in_err-tag.ensures _ _ (tag_stands _ type begins))

pub returns-in_err-class-in-7 : goal.returns-in_err-class-in-7
returns-in_err-class-in-7 c = handed _ _ _ _ c.from_residual-in_err-class-in-7.ensures (object_behind _ (search rules) c.in_ok-tag.ensures c.in_err-class-in-7.ensures)

pub returns-in_err-place-in-8 : goal.returns-in_err-place-in-8
returns-in_err-place-in-8 c = handed _ _ _ _ c.from_residual-in_err-place-in-8.ensures (uninitialized_behind _ (search rules) c.in_ok-tag.ensures c.in_err-place-in-8.ensures)
