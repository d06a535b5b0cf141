use Rattle.std.proofs.Common.{◌≡◌, ◌∙◌, ap, sym, subst, arith, None, Some, length, ◌+◌, ◌≤◌, ◌++◌, ◌∷◌, []}
use Rattle.cb_verify.specs.Frames.{height}
use Rattle.cb_verify.specs.InnerLaid.{Laid, laid_in, this_count}
use Rattle.cb_verify.specs.Types.{words}
use Rattle.cb_verify.proofs.LaidSteps.{kept_length, laid_same, no_room, pushed, some_words}
use Rattle.cb_verify.proofs.LaidValues.{count_push, few_this, height-push, lies_within}
use Rattle.cb_verify.proofs.laid.Laid.push.Goals as goal

pub overflow_sub-len : goal.overflow_sub-len
overflow_sub-len c = omega (arith, lies_within (length c.self.inside.locals) c.self.inside.values.items c.self.inside.locals c.self.invariant.0)

pub overflow_add-result-2 : goal.overflow_add-result-2
overflow_add-result-2 c =
    omega (
      arith,
      few_this (c.self.inside.values.items ++ c.args.value ∷ []),
      height-push c.self.inside.values.items c.args.value,
      count_push c.self.inside.values.items c.args.value,
      lies_within (length c.self.inside.locals) c.self.inside.values.items c.self.inside.locals c.self.invariant.0,
    )

pub with-requires : goal.with-requires
with-requires c = omega (arith, some_words c.args.value, lies_within (length c.self.inside.locals) c.self.inside.values.items c.self.inside.locals c.self.invariant.0)

pub returns-then-more-len : goal.returns-then-more-len
returns-then-more-len c =
    subst (λ (self : Laid). None ≡ laid_in (length self.locals) (self.values ++ c.args.value ∷ [])) c.self.view_is
    (sym (no_room (length c.self.inside.locals) c.self.inside.values.items c.args.value
    (omega (arith, height-push c.self.inside.values.items c.args.value, lies_within (length c.self.inside.locals) c.self.inside.values.items c.self.inside.locals c.self.invariant.0))))

pub invariant_of-result : goal.invariant_of-result
invariant_of-result c = (
  kept_length c.self.inside.locals c.in_ok-with.field-0 c.push.new.self.items c.args.value c.self.inside.words c.in_ok-with.ensures (pushed c.self.inside.values.items c.push.new.self.items c.self.inside.locals c.in_ok-with.field-0 c.args.value c.self.inside.words c.self.invariant.0 room c.self.invariant.1 c.in_ok-push.ensures.items c.in_ok-with.ensures),
  omega (arith, height-push c.self.inside.values.items c.args.value, ap height c.in_ok-push.ensures.items),
  omega (arith, count_push c.self.inside.values.items c.args.value, ap this_count c.in_ok-push.ensures.items),
)
  where
    room : height c.self.inside.values.items + words c.args.value ≤ length c.self.inside.locals
    room = omega (arith, lies_within (length c.self.inside.locals) c.self.inside.values.items c.self.inside.locals c.self.invariant.0)

pub returns : goal.returns
returns c =
    subst (λ (self : Laid). Some (record { values = c.push.new.self.items; locals = c.in_ok-with.field-0 }) ≡ laid_in (length self.locals) (self.values ++ c.args.value ∷ [])) c.self.view_is
    (sym (ap (laid_in (length c.self.inside.locals)) (sym c.in_ok-push.ensures.items) ∙ laid_same (length c.self.inside.locals) c.push.new.self.items c.in_ok-with.field-0
    (pushed c.self.inside.values.items c.push.new.self.items c.self.inside.locals c.in_ok-with.field-0 c.args.value c.self.inside.words c.self.invariant.0 room c.self.invariant.1 c.in_ok-push.ensures.items c.in_ok-with.ensures)))
  where
    room : height c.self.inside.values.items + words c.args.value ≤ length c.self.inside.locals
    room = omega (arith, lies_within (length c.self.inside.locals) c.self.inside.values.items c.self.inside.locals c.self.invariant.0)
