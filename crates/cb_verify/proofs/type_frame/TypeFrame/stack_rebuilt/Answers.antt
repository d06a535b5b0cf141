use Rattle.std.proofs.Common.{◌≡◌, ◌∙◌, ◌+◌, ◌-◌, ap, arith, cond, drop, ◌∷◌}
use Rattle.cb_verify.specs.Frames.{is_same, replaced}
use Rattle.cb_verify.proofs.FrameLists.{made_next}
use Rattle.cb_verify.proofs.type_frame.TypeFrame.stack_rebuilt.Goals as goal

pub loop-place-preserved : goal.loop-place-preserved
loop-place-preserved c =
    let place = c.loop-place.place - 1 in
    let same : c.loop-place.place ≡ place + 1 = omega arith in (
      omega arith,
      c.in_ok-stack.ensures
          ∙ ap (λ own. own ∷ c.loop-place.stack) c.type_replaced.ensures
          ∙ made_next (λ own. cond (is_same c.args.old own) c.args.new own) c.args.self.now.stack place c.top.result c.loop-place.stack c.top.ensures
          (c.loop-place.invariant.1 ∙ ap (λ place. replaced c.args.old c.args.new (drop place c.args.self.now.stack)) same),
    )
