use Rattle.std.proofs.Common.{◌+◌, sym, subst, false}
use Rattle.cb_blocks.specs.Parted.{Parted}
use Rattle.cb_slide.specs.Sliding.{ForwardedTo}
use Rattle.cb_slide.proofs.Forwards.{forward_skip}
use Rattle.cb_slide.proofs.Sets.{is_in_read, member_read}
use Rattle.cb_slide.proofs.forwarding.forward.Goals as goal
use Rattle.cb_slide.proofs.forwarding.forward.Goals.{then-has, else-has}

pub forward_part-requires : goal.forward_part-requires
forward_part-requires c =
    let f = c.loop-part.invariant c.requires.0 c.requires.1 c.requires.2 in
    (c.requires.0, f, is_in_read c.requires.0 c.args.set.now c.loop-part.part c.has.result f.given_is c.requires.2 c.has.ensures c.if-has.true)

pub loop-part-preserved : goal.loop-part-preserved
loop-part-preserved c given f same =
    let now = c.loop-part.invariant given f same in
    elim c.if-has.branch [
      | then-has w ↦
          subst (λ (m : Parted). ForwardedTo given m (c.loop-part.part + 1) 0) (sym w.words-is)
          (w.forward_part.ensures given now (is_in_read given c.args.set.now c.loop-part.part c.has.result now.given_is same c.has.ensures w.if-has.true))
      | else-has w ↦
          subst (λ (m : Parted). ForwardedTo given m (c.loop-part.part + 1) 0) (sym w.words-is)
          (forward_skip now (member_read given c.args.set.now c.loop-part.part c.has.result false same c.has.ensures w.if-has.false))
    ]
