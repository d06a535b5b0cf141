use Rattle.std.proofs.Common.{◌≡◌, ◌∙◌, ◌+◌, ◌-◌, ◌++◌, ap, arith, drop, take}
use Rattle.cb_verify.proofs.FrameLists.{put_next}
use Rattle.cb_verify.proofs.type_frame.TypeFrame.put_on.Goals as goal

pub loop-place-preserved : goal.loop-place-preserved
loop-place-preserved c =
    let place = c.loop-place.place - 1 in
    let same : c.loop-place.place ≡ place + 1 = omega arith in
    let below = c.args.below in (
      omega arith,
      put_next below c.loop-place.frame c.in_ok-frame.frame c.args.self.now.stack c.args.count place c.top.result c.top.ensures (omega arith)
          (c.loop-place.invariant.1
          ∙ ap (λ place. record { locals = below.locals; stack = drop place (take c.args.count c.args.self.now.stack) ++ below.stack; unfinished = below.unfinished }) same)
          c.in_ok-frame.ensures,
    )
