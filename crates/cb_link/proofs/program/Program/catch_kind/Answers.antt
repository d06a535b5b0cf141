use Rattle.std.proofs.Common.{◌∙◌, subst}
use Rattle.cb_link.specs.Having.{HasMethod, IsWhole}
use Rattle.cb_link.proofs.ConstantAnswers.{catch_at, has_handlers}
use Rattle.cb_link.proofs.program.Program.catch_kind.Goals as goal

pub method-requires : goal.method-requires
method-requires c = has_handlers c.args.self.now c.args.method c.args.handler (subst IsWhole c.self.view_is c.self.invariant.whole) c.requires

pub returns-clause-found : goal.returns-clause-found
returns-clause-found c =
    c.kind_at.ensures.found
    ∙ catch_at c.args.self.now c.args.method c.args.handler c.linked-linked.result.now c.method.result.now c.handlers_in-handlers.result.now _
    (subst (λ program. HasMethod program c.args.method c.linked-linked.result.now) c.self.view_is c.linked-linked.ensures.placed) c.method.ensures c.handlers_in-handlers.ensures c.requires
