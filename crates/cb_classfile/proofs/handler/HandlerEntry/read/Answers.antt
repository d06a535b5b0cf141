use Rattle.std.proofs.Common.{rules}
use Rattle.cb_classfile.proofs.Failing.{handed}
use Rattle.cb_classfile.proofs.HandlerParts.{handler_parts, handler_found}
use Rattle.cb_classfile.proofs.Sequence.{by_first, by_second, found_both}
use Rattle.cb_classfile.proofs.handler.HandlerEntry.read.Goals as goal

pub returns-in_err-start : goal.returns-in_err-start
returns-in_err-start c = handed _ _ _ _ c.from_residual.ensures (λ entry rest begins. by_first c.in_err-start.ensures _ rest (handler_parts begins))

pub returns-in_err-handler : goal.returns-in_err-handler
returns-in_err-handler c = handed _ _ _ _ c.from_residual-in_err-handler.ensures (λ entry rest begins. by_second c.in_ok-start.ensures c.in_err-handler.ensures _ rest (handler_parts begins))

pub returns : goal.returns
returns c = handler_found (found_both c.in_ok-start.ensures.found c.in_ok-handler.ensures.found) (search rules)
