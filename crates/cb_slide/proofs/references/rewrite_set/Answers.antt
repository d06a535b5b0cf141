use Rattle.std.proofs.Common.{◌+◌, arith, sym, subst, false}
use Rattle.cb_blocks.specs.Parted.{Parted}
use Rattle.cb_slide.specs.Sliding.{RewrittenTo}
use Rattle.cb_slide.proofs.Rewriting.{rewrite_skip}
use Rattle.cb_slide.proofs.Sets.{is_in_read, member_read, words_in, words_out}
use Rattle.cb_slide.proofs.references.rewrite_set.Goals as goal
use Rattle.cb_slide.proofs.references.rewrite_set.Goals.{then-has, else-has}

pub rewrite_part-requires : goal.rewrite_part-requires
rewrite_part-requires g c =
    let r = c.requires in
    let now = (c.loop-part.invariant r.0 r.1 r.2 r.3).0 in
    (r.0, now, is_in_read r.0 c.args.set.now c.loop-part.part c.has.result now.forwarded.given_is r.2 c.has.ensures c.if-has.true, r.2, r.3)

pub loop-part-preserved : goal.loop-part-preserved
loop-part-preserved g c given r same shapes =
    let both = c.loop-part.invariant given r same shapes in
    elim c.if-has.branch [
      | then-has w ↦
          let is = is_in_read given c.args.set.now c.loop-part.part c.has.result both.0.forwarded.given_is same c.has.ensures w.if-has.true in
          let done = w.rewrite_part.ensures given both.0 is same shapes in (
            subst (λ (m : Parted). RewrittenTo given m (c.loop-part.part + 1) 0) (sym w.words-is) done.0,
            omega (arith, w.steps-is, done.1, both.1, words_in given c.loop-part.part is.member),
          )
      | else-has w ↦
          let out = member_read given c.args.set.now c.loop-part.part c.has.result false same c.has.ensures w.if-has.false in (
            subst (λ (m : Parted). RewrittenTo given m (c.loop-part.part + 1) 0) (sym w.words-is) (rewrite_skip both.0 out),
            omega (arith, w.steps-is, both.1, words_out given c.loop-part.part out),
          )
    ]
