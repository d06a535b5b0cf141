use Rattle.std.proofs.Common.{◌∙◌, sym, ◌+◌}
use Rattle.cb_verify.specs.declared.verification_type.VerificationType.TheVariants.{Top}
use Rattle.cb_verify.proofs.Stacking.{stack_more, stack_never}
use Rattle.cb_verify.proofs.stacked.stacked.Goals as goal

pub returns-in-None : goal.returns-in-None
returns-in-None c =
    sym (stack_never c.args.most c.args.bare c.args.types.now (c.loop-value.value-index + 1)
    (stack_more c.args.most c.args.bare c.loop-value.frame c.args.types.now c.loop-value.value-index Top c.in_ok-higher.field-0 c.loop-value-test.true c.loop-value.invariant c.in_ok-higher.ensures
    ∙ c.in-None.is))

pub loop-value-preserved : goal.loop-value-preserved
loop-value-preserved c =
    stack_more c.args.most c.args.bare c.loop-value.frame c.args.types.now c.loop-value.value-index Top c.in_ok-higher.field-0 c.loop-value-test.true c.loop-value.invariant c.in_ok-higher.ensures
    ∙ c.in-Some.is
