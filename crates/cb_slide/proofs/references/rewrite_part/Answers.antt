use Rattle.std.proofs.Common.{◌∙◌, refl, sym, ap, arith}
use Rattle.cb_blocks.specs.Parted.{Parted}
use Rattle.cb_slide.proofs.Ends.{ends_on, has_blocks, same_ends}
use Rattle.cb_slide.proofs.Forwards.{spot_at}
use Rattle.cb_slide.proofs.Objects.{fits_now, gone_now, header_now, kept_now, object_done, object_next, object_passed, rewrite_first, rewrite_less, rewrite_past, same_rewritten, size_now}
use Rattle.cb_slide.proofs.Rewriting.{rewrite_part_end}
use Rattle.cb_slide.proofs.references.rewrite_part.Goals as goal
use Rattle.cb_slide.proofs.references.rewrite_part.Goals.{then-mark_at-ne0, else-mark_at-ne0}

pub loop-scan-init : goal.loop-scan-init
loop-scan-init g c given r is set shapes = (rewrite_first r, omega arith, record { behind = omega arith; there = c.first_place-at.ensures })

pub place_past-at-requires-clause-behind : goal.place_past-at-requires-clause-behind
place_past-at-requires-clause-behind g c = let r = c.requires in (c.loop-scan.invariant r.0 r.1 r.2 r.3 r.4).2.behind

pub place_past-at-requires-clause-there : goal.place_past-at-requires-clause-there
place_past-at-requires-clause-there g c =
    let r = c.requires in
    let all = c.loop-scan.invariant r.0 r.1 r.2 r.3 r.4 in
    let less = rewrite_less c.loop-scan.scan c.used-end.result r.1 c.used-end.ensures c.loop-scan-test.true in
    let f = all.0.so_far.forwarded in
    all.2.there (has_blocks c.loop-scan.words c.loop-scan.scan f.given_is r.2 f.alike.rows less)

pub object_words-size-requires : goal.object_words-size-requires
object_words-size-requires g c =
    let r = c.requires in
    let less = rewrite_less c.loop-scan.scan c.used-end.result r.1 c.used-end.ensures c.loop-scan-test.true in
    (spot_at c.args.part c.loop-scan.scan, header_now (c.loop-scan.invariant r.0 r.1 r.2 r.3 r.4).0 r.2 less c.place_past-at.result c.place_past-at.ensures.place)

pub mark_at-requires : goal.mark_at-requires
mark_at-requires g c =
    let r = c.requires in
    let less = rewrite_less c.loop-scan.scan c.used-end.result r.1 c.used-end.ensures c.loop-scan-test.true in
    (spot_at c.args.part c.loop-scan.scan, header_now (c.loop-scan.invariant r.0 r.1 r.2 r.3 r.4).0 r.2 less c.place_past-at.result c.place_past-at.ensures.place)

pub overflow_sub-size : goal.overflow_sub-size
overflow_sub-size g c =
    let r = c.requires in
    let s = (c.loop-scan.invariant r.0 r.1 r.2 r.3 r.4).0 in
    let less = rewrite_less c.loop-scan.scan c.used-end.result r.1 c.used-end.ensures c.loop-scan-test.true in
    let size = size_now s r.2 less c.place_past-at.result c.place_past-at.ensures.place c.object_words-size.result c.object_words-size.ensures in
    omega (arith, (fits_now s r.2 less c.place_past-at.result c.place_past-at.ensures.place c.object_words-size.result size).2)

pub rewrite_object-requires : goal.rewrite_object-requires
rewrite_object-requires g c =
    let r = c.requires in
    let s = (c.loop-scan.invariant r.0 r.1 r.2 r.3 r.4).0 in
    let less = rewrite_less c.loop-scan.scan c.used-end.result r.1 c.used-end.ensures c.loop-scan-test.true in
    let at = c.place_past-at.result in
    let place = c.place_past-at.ensures.place in
    let size = size_now s r.2 less at place c.object_words-size.result c.object_words-size.ensures in
    let kept = kept_now s r.2 less at place c.mark_at.result c.mark_at.ensures c.if-mark_at-ne0.true in
    (r.0, spot_at c.args.part c.loop-scan.scan, object_next s r.2 less at place c.args.shapes.now c.args.set.now c.object_words-size.result size kept r.3 r.4)

pub overflow_add-scan : goal.overflow_add-scan
overflow_add-scan g c =
    let r = c.requires in
    let s = (c.loop-scan.invariant r.0 r.1 r.2 r.3 r.4).0 in
    let less = rewrite_less c.loop-scan.scan c.used-end.result r.1 c.used-end.ensures c.loop-scan-test.true in
    let size = size_now s r.2 less c.place_past-at.result c.place_past-at.ensures.place c.object_words-size.result c.object_words-size.ensures in
    let fits = fits_now s r.2 less c.place_past-at.result c.place_past-at.ensures.place c.object_words-size.result size in
    omega (arith, fits.0, fits.1)

pub loop-scan-smaller : goal.loop-scan-smaller
loop-scan-smaller g c =
    let r = c.requires in
    let s = (c.loop-scan.invariant r.0 r.1 r.2 r.3 r.4).0 in
    let less = rewrite_less c.loop-scan.scan c.used-end.result r.1 c.used-end.ensures c.loop-scan-test.true in
    let size = size_now s r.2 less c.place_past-at.result c.place_past-at.ensures.place c.object_words-size.result c.object_words-size.ensures in
    let fits = fits_now s r.2 less c.place_past-at.result c.place_past-at.ensures.place c.object_words-size.result size in
    omega (arith, c.loop-scan-test.true, fits.2)

pub loop-scan-preserved : goal.loop-scan-preserved
loop-scan-preserved g c given f is set shapes =
    let both = c.loop-scan.invariant given f is set shapes in
    let s = both.0 in
    let less = rewrite_less c.loop-scan.scan c.used-end.result f c.used-end.ensures c.loop-scan-test.true in
    let at = c.place_past-at.result in
    let place = c.place_past-at.ensures.place in
    let size = size_now s is less at place c.object_words-size.result c.object_words-size.ensures in
    let fits = fits_now s is less at place c.object_words-size.result size in
    let ends = ends_on c.loop-scan.words.rows c.args.part c.loop-scan.scan at c.object_words-size.result place in
    elim c.if-mark_at-ne0.branch [
      | then-mark_at-ne0 w ↦
          let kept = kept_now s is less at place c.mark_at.result c.mark_at.ensures w.if-mark_at-ne0.true in
          let x = object_next s is less at place c.args.shapes.now c.args.set.now c.object_words-size.result size kept set shapes in (
            same_rewritten w.rewrite_object.new.words c.if-mark_at-ne0.words w.words-is
                (object_done s is less at place w.rewrite_object.new.words c.object_words-size.result size (w.rewrite_object.ensures.written given (spot_at c.args.part c.loop-scan.scan) x)),
            omega (arith, w.steps-is, w.rewrite_object.ensures.counted, c.tick.ensures, c.tick-in-loop-scan.ensures, c.tick-in-loop-scan-2.ensures, both.1, fits.2),
            same_ends c.args.part c.loop-scan.words.rows c.if-mark_at-ne0.words.rows _ _ at at _ _
                (ap (λ (v : Parted). v.rows) w.words-is ∙ (w.rewrite_object.ensures.written given (spot_at c.args.part c.loop-scan.scan) x).forwarded.alike.rows ∙ sym s.so_far.forwarded.alike.rows) refl refl refl ends,
          )
      | else-mark_at-ne0 w ↦ (
        same_rewritten c.loop-scan.words c.if-mark_at-ne0.words w.words-is
            (object_passed s is less at place c.object_words-size.result size (gone_now s is less at place c.mark_at.result c.mark_at.ensures w.if-mark_at-ne0.false)),
        omega (arith, w.steps-is, c.tick.ensures, c.tick-in-loop-scan.ensures, c.tick-in-loop-scan-2.ensures, both.1, fits.2),
        same_ends c.args.part c.loop-scan.words.rows c.if-mark_at-ne0.words.rows _ _ at at _ _ (ap (λ (v : Parted). v.rows) w.words-is) refl refl refl ends,
      )
    ]

pub returns : goal.returns
returns g c given f is set shapes =
    let both = c.loop-scan.invariant given f is set shapes in (
      rewrite_part_end both.0.so_far (rewrite_past c.loop-scan.scan c.used-end.result f c.used-end.ensures c.loop-scan-test.false),
      omega (arith, both.1, both.0.edge.inside),
    )
