use Rattle.std.proofs.Common.{◌+◌, arith, sym, subst, false}
use Rattle.cb_blocks.specs.Parted.{Parted}
use Rattle.cb_slide.specs.Sliding.{SlidTo}
use Rattle.cb_slide.proofs.Compacts.{compact_begins, compact_skip}
use Rattle.cb_slide.proofs.Sets.{is_in_read, member_read, words_in, words_out}
use Rattle.cb_slide.proofs.moving.compact.Goals as goal
use Rattle.cb_slide.proofs.moving.compact.Goals.{then-has, else-has}

pub loop-part-init : goal.loop-part-init
loop-part-init g c given r same = (compact_begins r c.blocks_free-sound.ensures.sound, omega arith)

pub compact_part-requires : goal.compact_part-requires
compact_part-requires g c =
    let r = c.requires in
    let now = (c.loop-part.invariant r.0 r.1 r.2).0 in
    (r.0, c.args.words.now, now, is_in_read r.0 c.args.set.now c.loop-part.part c.has.result now.before_is.forwarded.given_is r.2 c.has.ensures c.if-has.true)

pub loop-part-preserved : goal.loop-part-preserved
loop-part-preserved g c given r same =
    let both = c.loop-part.invariant given r same in
    elim c.if-has.branch [
      | then-has w ↦
          let is = is_in_read given c.args.set.now c.loop-part.part c.has.result both.0.before_is.forwarded.given_is same c.has.ensures w.if-has.true in
          let done = w.compact_part.ensures given c.args.words.now both.0 is in (
            subst (λ (m : Parted). SlidTo given c.args.words.now m (c.loop-part.part + 1)) (sym w.words-is) done.0,
            omega (arith, w.steps-is, done.1, both.1, words_in given c.loop-part.part is.member),
          )
      | else-has w ↦
          let out = member_read given c.args.set.now c.loop-part.part c.has.result false same c.has.ensures w.if-has.false in (
            subst (λ (m : Parted). SlidTo given c.args.words.now m (c.loop-part.part + 1)) (sym w.words-is) (compact_skip both.0 out),
            omega (arith, w.steps-is, both.1, words_out given c.loop-part.part out),
          )
    ]
