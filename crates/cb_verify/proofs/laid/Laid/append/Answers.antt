use Rattle.std.proofs.Common.{◌≡◌, ◌∙◌, ap, sym, [], ◌∷◌, ◌++◌, ◌+◌, get_or, length, take}
use Rattle.cb_verify.specs.declared.verification_type.VerificationType.TheVariants.{Top}
use Rattle.cb_verify.specs.InnerLaid.{laid_in}
use Rattle.cb_verify.proofs.LaidSteps.{added_more, added_never, holds, step_said}
use Rattle.cb_verify.proofs.laid.Laid.append.Goals as goal

pub returns-in-None : goal.returns-in-None
returns-in-None c = sym (added_never (length c.args.self.locals) c.args.self.values c.args.more.now (c.loop-value.value-index + 1) (sym said ∙ c.in-None.is))
  where
    said : c.in_ok-longer.field-0 ≡ laid_in (length c.args.self.locals) (c.args.self.values ++ take (c.loop-value.value-index + 1) c.args.more.now)
    said =
        step_said (λ own. own ++ get_or c.args.more.now c.loop-value.value-index Top ∷ []) c.in_ok-longer.field-0 c.loop-value.invariant c.in_ok-longer.ensures
        ∙ ap (laid_in (length c.args.self.locals)) (added_more c.args.self.values c.args.more.now c.loop-value.value-index Top c.loop-value-test.true)

pub loop-value-preserved : goal.loop-value-preserved
loop-value-preserved c =
    holds (length c.args.self.locals) (c.args.self.values ++ take (c.loop-value.value-index + 1) c.args.more.now) c.in-Some.longer (sym said ∙ c.in-Some.is)
  where
    said : c.in_ok-longer.field-0 ≡ laid_in (length c.args.self.locals) (c.args.self.values ++ take (c.loop-value.value-index + 1) c.args.more.now)
    said =
        step_said (λ own. own ++ get_or c.args.more.now c.loop-value.value-index Top ∷ []) c.in_ok-longer.field-0 c.loop-value.invariant c.in_ok-longer.ensures
        ∙ ap (laid_in (length c.args.self.locals)) (added_more c.args.self.values c.args.more.now c.loop-value.value-index Top c.loop-value-test.true)
