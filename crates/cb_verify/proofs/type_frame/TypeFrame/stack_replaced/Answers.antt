use Rattle.std.proofs.Common.{◌≡◌, ◌∙◌, ap, subst, sym, List}
use Rattle.std.specs.Result.{IfOk}
use Rattle.cb_verify.specs.declared.verification_type.VerificationType.{VerificationType}
use Rattle.cb_verify.proofs.Heights.{replaced_nothing}
use Rattle.cb_verify.proofs.type_frame.TypeFrame.stack_replaced.Goals as goal

pub returns-else-holds : goal.returns-else-holds
returns-else-holds c =
    subst (λ (all : List VerificationType). IfOk c.share.result (λ stack. stack ≡ all))
    (ap (λ frame. frame.stack) c.self.view_is ∙ replaced_nothing c.args.old c.args.new c.args.self.now.stack (sym c.holds.ensures ∙ c.if-holds.false))
    c.share.ensures
