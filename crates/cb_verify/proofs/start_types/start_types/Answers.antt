use Rattle.std.proofs.Common.{◌≡◌, subst, Some, slice_get}
use Rattle.cb_verify.specs.Expansion.{this_types}
use Rattle.cb_verify.specs.Within.{Within, parameters}
use Rattle.cb_verify.proofs.StartTypes.{one_type_more}
use Rattle.cb_verify.proofs.start_types.start_types.Goals as goal

pub loop-parameter-preserved : goal.loop-parameter-preserved
loop-parameter-preserved c =
    one_type_more (this_types c.args.method.now) c.loop-parameter.types c.push.new.self (parameters c.args.method.now) c.loop-parameter.parameter c.parameter-basic.result c.of_basic.result c.loop-parameter.invariant
    (subst (λ (method : Within). slice_get (parameters method) c.loop-parameter.parameter ≡ Some c.parameter-basic.result) c.method.view_is c.parameter-basic.ensures.basic) c.of_basic.ensures c.in_ok-push.ensures.ok
