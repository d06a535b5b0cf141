use Rattle.cb_classfile.proofs.Failing.{handed}
use Rattle.cb_classfile.proofs.OneFrame.{exact_frame}
use Rattle.cb_classfile.proofs.OneItem.{front}
use Rattle.cb_classfile.proofs.Sequence.{by_first, by_second, found_both}
use Rattle.cb_classfile.proofs.frame_map.MapFrameEntry.read.Goals as goal

pub returns-in_err-kind : goal.returns-in_err-kind
returns-in_err-kind c = handed _ _ _ _ c.from_residual.ensures (λ frame rest begins. by_first c.in_err-kind.ensures _ rest begins)

pub returns-in_err-delta : goal.returns-in_err-delta
returns-in_err-delta c = handed _ _ _ _ c.from_residual-in_err-delta.ensures (λ frame rest begins.
    by_second c.in_ok-kind.ensures (by_first (rw c.form_of_frame-form.ensures at c.in_err-delta.ensures)) _ rest begins)

pub returns-in_err-locals : goal.returns-in_err-locals
returns-in_err-locals c =
    let delta = rw c.form_of_frame-form.ensures at c.in_ok-delta.ensures in
    handed _ _ _ _ c.from_residual-in_err-locals.ensures (λ frame rest begins.
    by_second c.in_ok-kind.ensures (by_second delta (by_first (rw c.form_of_frame-form.ensures at c.in_err-locals.ensures))) _ rest begins)

pub returns-in_err-stack : goal.returns-in_err-stack
returns-in_err-stack c =
    let delta = rw c.form_of_frame-form.ensures at c.in_ok-delta.ensures in
    let locals = rw c.form_of_frame-form.ensures at c.in_ok-locals.ensures in
    handed _ _ _ _ c.from_residual-in_err-stack.ensures (λ frame rest begins.
    by_second c.in_ok-kind.ensures (by_second delta (by_second locals (rw c.form_of_frame-form.ensures at c.in_err-stack.ensures))) _ rest begins)

pub returns : goal.returns
returns c =
    let delta = rw c.form_of_frame-form.ensures at c.in_ok-delta.ensures in
    let locals = rw c.form_of_frame-form.ensures at c.in_ok-locals.ensures in
    let stack = rw c.form_of_frame-form.ensures at c.in_ok-stack.ensures in
    front (exact_frame _) (found_both c.in_ok-kind.ensures.found (found_both delta.found (found_both locals.found stack.found)))
