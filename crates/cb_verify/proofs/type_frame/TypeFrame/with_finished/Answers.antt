use Rattle.std.proofs.Common.{◌∙◌, ap, sym}
use Rattle.cb_verify.specs.Frames.{height}
use Rattle.cb_verify.proofs.Heights.{height_replaced}
use Rattle.cb_verify.proofs.type_frame.TypeFrame.with_finished.Goals as goal

pub invariant_of-result : goal.invariant_of-result
invariant_of-result c =
    c.self.invariant
    ∙ ap (λ frame. height frame.stack) c.self.view_is
    ∙ sym (ap height c.in_ok-stack.ensures ∙ height_replaced c.args.old c.args.kind c.args.self.now.stack)
