use Rattle.std.proofs.Common.{◌≡◌, ◌∙◌, ap, sym, subst, arith, Some, length, ◌-◌, take}
use Rattle.cb_verify.specs.declared.verification_type.VerificationType.TheVariants.{Top}
use Rattle.cb_verify.specs.Frames.{height}
use Rattle.cb_verify.specs.InnerLaid.{Laid, laid_in, this_count}
use Rattle.cb_verify.proofs.LaidSteps.{kept_length, laid_same, popped, some_words, without_one}
use Rattle.cb_verify.proofs.LaidValues.{count_push, height-push, lies_within}
use Rattle.cb_verify.proofs.laid.Laid.pop.Goals as goal

pub overflow_sub-words : goal.overflow_sub-words
overflow_sub-words c = omega (arith, height-push c.pop.new.self.items c.in-Some.value, ap height c.in-Some.ensures.items)

pub with-requires : goal.with-requires
with-requires c =
    omega (
      arith,
      some_words c.in-Some.value,
      height-push c.pop.new.self.items c.in-Some.value,
      ap height c.in-Some.ensures.items,
      lies_within (length c.self.inside.locals) c.self.inside.values.items c.self.inside.locals c.self.invariant.0,
    )

pub overflow_sub-result : goal.overflow_sub-result
overflow_sub-result c = omega (arith, count_push c.pop.new.self.items c.in-Some.value, ap this_count c.in-Some.ensures.items)

pub invariant_of-result : goal.invariant_of-result
invariant_of-result c = (
  kept_length c.self.inside.locals c.in_ok-with.field-0 c.pop.new.self.items Top _ c.in_ok-with.ensures
      (popped c.self.inside.values.items c.pop.new.self.items c.self.inside.locals c.in_ok-with.field-0 c.in-Some.value _ c.self.invariant.0 c.in-Some.ensures.items place c.in_ok-with.ensures),
  place,
  omega (arith, count_push c.pop.new.self.items c.in-Some.value, ap this_count c.in-Some.ensures.items),
)
  where
    place : c.self.inside.words - c.words.result ≡ height c.pop.new.self.items
    place = omega (arith, height-push c.pop.new.self.items c.in-Some.value, ap height c.in-Some.ensures.items)

pub returns : goal.returns
returns c =
    subst (λ (self : Laid). Some (record { values = c.pop.new.self.items; locals = c.in_ok-with.field-0 }) ≡ laid_in (length self.locals) (take (length self.values - 1) self.values)) c.self.view_is
    (sym (ap (laid_in (length c.self.inside.locals)) (without_one c.self.inside.values.items c.pop.new.self.items c.in-Some.value c.in-Some.ensures.items)
    ∙ laid_same (length c.self.inside.locals) c.pop.new.self.items c.in_ok-with.field-0
    (popped c.self.inside.values.items c.pop.new.self.items c.self.inside.locals c.in_ok-with.field-0 c.in-Some.value _ c.self.invariant.0 c.in-Some.ensures.items place c.in_ok-with.ensures)))
  where
    place : c.self.inside.words - c.words.result ≡ height c.pop.new.self.items
    place = omega (arith, height-push c.pop.new.self.items c.in-Some.value, ap height c.in-Some.ensures.items)
