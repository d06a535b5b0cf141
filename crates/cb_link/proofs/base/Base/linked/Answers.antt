use Rattle.std.proofs.Common.{IfSome, length, subst}
use Rattle.cb_link.specs.Having.{HasMethod, IsBelow}
use Rattle.cb_link.proofs.MembersAmong.{parameter_within, result_within}
use Rattle.cb_link.proofs.PlacedLaws.{has_method}
use Rattle.cb_link.proofs.base.Base.linked.Goals as goal

pub returns-clause-placed : goal.returns-clause-placed
returns-clause-placed c =
    subst (λ program. HasMethod program c.args.method c.get.result.now) c.self.view_is
    (has_method _ c.args.method c.get.result.now c.self.invariant.methods c.get.ensures)

pub returns-clause-parameters : goal.returns-clause-parameters
returns-clause-parameters c = λ place basic is.
    subst (λ program. IsBelow (length program.kinds) basic) c.self.view_is
    (parameter_within _ c.self.invariant c.args.method c.get.result.now (has_method _ c.args.method c.get.result.now c.self.invariant.methods c.get.ensures) place basic is)

pub returns-clause-given : goal.returns-clause-given
returns-clause-given c =
    subst (λ program. IfSome c.get.result.now.result (IsBelow (length program.kinds))) c.self.view_is
    (result_within _ c.self.invariant c.args.method c.get.result.now (has_method _ c.args.method c.get.result.now c.self.invariant.methods c.get.ensures))
