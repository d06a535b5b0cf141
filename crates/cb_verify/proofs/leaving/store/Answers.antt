use Rattle.std.proofs.Common.{◌≡◌, ◌∙◌, sym, subst}
use Rattle.cb_verify.specs.Frames.{with_stack}
use Rattle.cb_verify.specs.Within.{Within}
use Rattle.cb_verify.proofs.Tops.{store_left}
use Rattle.cb_verify.proofs.leaving.store.Goals as goal

pub returns-in-Some : goal.returns-in-Some
returns-in-Some c =
    store_left c.args.method.now c.args.sort c.args.local c.args.frame.now c.in_ok-below.field-0 c.in-Some.left c.top-value.result c.legal.result
    c.top-value.ensures (sym c.is_of.ensures ∙ c.if-not-is_of.false) c.in_ok-below.ensures (sym c.in-Some.is ∙ c.in_ok-left.ensures)
    (subst (λ (method : Within). c.legal.result ≡ with_stack method.body.max_stack c.in-Some.left c.in-Some.left.stack) c.method.view_is c.legal.ensures)
