use Rattle.std.proofs.Common.{◌∙◌, ◌++◌, Some, ap, sym}
use Rattle.cb_kinds.specs.Texts.{entered_all}
use Rattle.cb_link.specs.Making.{body_kinds, descriptor_kinds}
use Rattle.cb_link.proofs.KindedParts.{then_more}
use Rattle.cb_link.proofs.named_kinds.MethodKinded.enter.Goals as goal

pub returns-in_ok-enter_body : goal.returns-in_ok-enter_body
returns-in_ok-enter_body c =
    let pool = c.args.pool.now in
    let method = c.args.self.now in
    then_more c.args.kinds.now c.enter_descriptor.new.kinds c.enter_body.new.kinds (descriptor_kinds pool method.descriptor) (body_kinds pool (Some c.in-Some.body))
    c.in_ok-enter_descriptor.ensures c.in_ok-enter_body.ensures
    ∙ ap (λ body. entered_all c.args.kinds.now (descriptor_kinds pool method.descriptor ++ body_kinds pool body)) (sym c.in-Some.is)
