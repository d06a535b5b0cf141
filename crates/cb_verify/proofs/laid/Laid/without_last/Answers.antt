use Rattle.std.proofs.Common.{◌∙◌, ap, sym, arith, List, ◌-◌, ◌+◌, ◌≤◌, length, take, Some}
use Rattle.cb_verify.specs.declared.verification_type.VerificationType.{VerificationType}
use Rattle.cb_verify.specs.InnerLaid.{Laid, laid_in}
use Rattle.cb_verify.proofs.LaidSteps.{holds, left_less, step_said}
use Rattle.cb_verify.proofs.laid.Laid.without_last.Goals as goal

pub loop-preserved : goal.loop-preserved
loop-preserved c =
    holds (length c.args.self.locals) (take (length values - (c.loop.counter + 1)) values) c.in_ok-all.all
    (sym (step_said (λ own. take (length own - 1) own) (Some c.in_ok-all.all) c.loop.invariant c.in_ok-all.ensures
    ∙ ap (laid_in (length c.args.self.locals)) (left_less values c.args.count c.loop.counter (omega arith) enough)))
  where
    values : List VerificationType
    values = c.args.self.values

    enough : c.args.count ≤ length values
    enough = omega (arith, ap (λ (own : Laid). length own.values) c.self.view_is)
