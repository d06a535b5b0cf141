use Rattle.std.proofs.Common.{◌∙◌, ◌+◌, refl, ap, arith}
use Rattle.cb_blocks.specs.Parted.{Parted}
use Rattle.cb_slide.proofs.Ends.{ends_on, has_blocks, same_ends}
use Rattle.cb_slide.proofs.Forwards.{edge_first, fits_here, forward_part_end, header_here, next_gone, next_kept, same_scan, scan_less, scan_past, size_here, spot_at}
use Rattle.cb_slide.proofs.forwarding.forward_part.Goals as goal
use Rattle.cb_slide.proofs.forwarding.forward_part.Goals.{then-mark_at-ne0, else-mark_at-ne0}

pub loop-scan-init : goal.loop-scan-init
loop-scan-init c = record {
  so_far = λ given f is. record { so_far = f; edge = edge_first given c.args.part; free_is = refl };
  object = record { behind = omega arith; there = c.first_place-at.ensures };
  target = record { behind = omega arith; there = c.first_place-at.ensures };
}

pub place_past-at-requires-clause-behind : goal.place_past-at-requires-clause-behind
place_past-at-requires-clause-behind c = c.loop-scan.invariant.object.behind

pub place_past-at-requires-clause-there : goal.place_past-at-requires-clause-there
place_past-at-requires-clause-there c =
    let s = (c.loop-scan.invariant.so_far c.requires.0 c.requires.1 c.requires.2).so_far in
    let less = scan_less c.loop-scan.scan c.used-end.result c.requires.1 c.used-end.ensures c.loop-scan-test.true in
    c.loop-scan.invariant.object.there (has_blocks c.loop-scan.words c.loop-scan.scan s.given_is c.requires.2 s.alike.rows less)

pub place_past-to-requires-clause-behind : goal.place_past-to-requires-clause-behind
place_past-to-requires-clause-behind c = c.loop-scan.invariant.target.behind

pub place_past-to-requires-clause-there : goal.place_past-to-requires-clause-there
place_past-to-requires-clause-there c =
    let s = (c.loop-scan.invariant.so_far c.requires.0 c.requires.1 c.requires.2).so_far in
    let less = scan_less c.loop-scan.scan c.used-end.result c.requires.1 c.used-end.ensures c.loop-scan-test.true in
    c.loop-scan.invariant.target.there (has_blocks c.loop-scan.words c.loop-scan.scan s.given_is c.requires.2 s.alike.rows less)

pub object_words-size-requires : goal.object_words-size-requires
object_words-size-requires c =
    let less = scan_less c.loop-scan.scan c.used-end.result c.requires.1 c.used-end.ensures c.loop-scan-test.true in
    (spot_at c.args.part c.loop-scan.scan, header_here (c.loop-scan.invariant.so_far c.requires.0 c.requires.1 c.requires.2) c.requires.2 less c.place_past-at.result c.place_past-at.ensures.place)

pub mark_at-requires : goal.mark_at-requires
mark_at-requires c =
    let less = scan_less c.loop-scan.scan c.used-end.result c.requires.1 c.used-end.ensures c.loop-scan-test.true in
    (spot_at c.args.part c.loop-scan.scan, header_here (c.loop-scan.invariant.so_far c.requires.0 c.requires.1 c.requires.2) c.requires.2 less c.place_past-at.result c.place_past-at.ensures.place)

pub place_past-to-requires-clause-inside : goal.place_past-to-requires-clause-inside
place_past-to-requires-clause-inside c =
    let s = c.loop-scan.invariant.so_far c.requires.0 c.requires.1 c.requires.2 in
    let less = scan_less c.loop-scan.scan c.used-end.result c.requires.1 c.used-end.ensures c.loop-scan-test.true in
    let size = size_here s c.requires.2 less c.place_past-at.result c.place_past-at.ensures.place c.object_words-size.result c.object_words-size.ensures in
    omega (arith, less, (fits_here s c.requires.2 less c.place_past-at.result c.place_past-at.ensures.place c.object_words-size.result size).3, s.so_far.alike.long c.args.part)

pub set_mark_at-requires-clause-there : goal.set_mark_at-requires-clause-there
set_mark_at-requires-clause-there c =
    let less = scan_less c.loop-scan.scan c.used-end.result c.requires.1 c.used-end.ensures c.loop-scan-test.true in
    (spot_at c.args.part c.loop-scan.scan, header_here (c.loop-scan.invariant.so_far c.requires.0 c.requires.1 c.requires.2) c.requires.2 less c.place_past-at.result c.place_past-at.ensures.place)

pub overflow_add-free : goal.overflow_add-free
overflow_add-free c =
    let s = c.loop-scan.invariant.so_far c.requires.0 c.requires.1 c.requires.2 in
    let less = scan_less c.loop-scan.scan c.used-end.result c.requires.1 c.used-end.ensures c.loop-scan-test.true in
    let size = size_here s c.requires.2 less c.place_past-at.result c.place_past-at.ensures.place c.object_words-size.result c.object_words-size.ensures in
    let fits = fits_here s c.requires.2 less c.place_past-at.result c.place_past-at.ensures.place c.object_words-size.result size in
    omega (arith, fits.0, fits.1, fits.3)

pub overflow_add-scan : goal.overflow_add-scan
overflow_add-scan c =
    let s = c.loop-scan.invariant.so_far c.requires.0 c.requires.1 c.requires.2 in
    let less = scan_less c.loop-scan.scan c.used-end.result c.requires.1 c.used-end.ensures c.loop-scan-test.true in
    let size = size_here s c.requires.2 less c.place_past-at.result c.place_past-at.ensures.place c.object_words-size.result c.object_words-size.ensures in
    let fits = fits_here s c.requires.2 less c.place_past-at.result c.place_past-at.ensures.place c.object_words-size.result size in
    omega (arith, fits.0, fits.1)

pub loop-scan-smaller : goal.loop-scan-smaller
loop-scan-smaller c =
    let s = c.loop-scan.invariant.so_far c.requires.0 c.requires.1 c.requires.2 in
    let less = scan_less c.loop-scan.scan c.used-end.result c.requires.1 c.used-end.ensures c.loop-scan-test.true in
    let size = size_here s c.requires.2 less c.place_past-at.result c.place_past-at.ensures.place c.object_words-size.result c.object_words-size.ensures in
    let fits = fits_here s c.requires.2 less c.place_past-at.result c.place_past-at.ensures.place c.object_words-size.result size in
    omega (arith, c.loop-scan-test.true, fits.2)

pub loop-scan-preserved : goal.loop-scan-preserved
loop-scan-preserved c = record {
  so_far = λ given f is.
      let s = c.loop-scan.invariant.so_far given f is in
      let less = scan_less c.loop-scan.scan c.used-end.result f c.used-end.ensures c.loop-scan-test.true in
      let at = c.place_past-at.result in
      let place = c.place_past-at.ensures.place in
      let size = size_here s is less at place c.object_words-size.result c.object_words-size.ensures in
      elim c.if-mark_at-ne0.branch [
        | then-mark_at-ne0 w ↦
            same_scan w.set_mark_at.new.words c.if-mark_at-ne0.words _ c.if-mark_at-ne0.free w.words-is w.free-is
            (next_kept s is less at place c.object_words-size.result c.mark_at.result w.place_past-to.result w.set_mark_at.new.words size c.mark_at.ensures w.if-mark_at-ne0.true w.place_past-to.ensures.place w.set_mark_at.ensures)
        | else-mark_at-ne0 w ↦
            same_scan c.loop-scan.words c.if-mark_at-ne0.words _ c.if-mark_at-ne0.free w.words-is w.free-is
            (next_gone s is less at place c.object_words-size.result c.mark_at.result size c.mark_at.ensures w.if-mark_at-ne0.false)
      ];
  object =
      let size = c.object_words-size.result in
      let ends = ends_on c.loop-scan.words.rows c.args.part c.loop-scan.scan c.place_past-at.result size c.place_past-at.ensures.place in
      elim c.if-mark_at-ne0.branch [
        | then-mark_at-ne0 w ↦
            same_ends c.args.part c.loop-scan.words.rows c.if-mark_at-ne0.words.rows (c.loop-scan.scan + size) (c.loop-scan.scan + size) c.place_past-at.result c.place_past-at.result size size
            (ap (λ (v : Parted). v.rows) (w.words-is ∙ w.set_mark_at.ensures (spot_at c.args.part c.loop-scan.scan) (header_here (c.loop-scan.invariant.so_far c.requires.0 c.requires.1 c.requires.2) c.requires.2 (scan_less c.loop-scan.scan c.used-end.result c.requires.1 c.used-end.ensures c.loop-scan-test.true) c.place_past-at.result c.place_past-at.ensures.place))) refl refl refl ends
        | else-mark_at-ne0 w ↦
            same_ends c.args.part c.loop-scan.words.rows c.if-mark_at-ne0.words.rows (c.loop-scan.scan + size) (c.loop-scan.scan + size) c.place_past-at.result c.place_past-at.result size size
            (ap (λ (v : Parted). v.rows) w.words-is) refl refl refl ends
      ];
  target = elim c.if-mark_at-ne0.branch [
    | then-mark_at-ne0 w ↦
        same_ends c.args.part c.loop-scan.words.rows c.if-mark_at-ne0.words.rows (c.loop-scan.free + c.object_words-size.result) c.if-mark_at-ne0.free w.place_past-to.result c.if-mark_at-ne0.to c.object_words-size.result c.if-mark_at-ne0.kept
        (ap (λ (v : Parted). v.rows) (w.words-is ∙ w.set_mark_at.ensures (spot_at c.args.part c.loop-scan.scan) (header_here (c.loop-scan.invariant.so_far c.requires.0 c.requires.1 c.requires.2) c.requires.2 (scan_less c.loop-scan.scan c.used-end.result c.requires.1 c.used-end.ensures c.loop-scan-test.true) c.place_past-at.result c.place_past-at.ensures.place))) w.free-is w.to-is w.kept-is
        (ends_on c.loop-scan.words.rows c.args.part c.loop-scan.free w.place_past-to.result c.object_words-size.result w.place_past-to.ensures.place)
    | else-mark_at-ne0 w ↦
        same_ends c.args.part c.loop-scan.words.rows c.if-mark_at-ne0.words.rows c.loop-scan.free c.if-mark_at-ne0.free c.loop-scan.to c.if-mark_at-ne0.to c.loop-scan.kept c.if-mark_at-ne0.kept
        (ap (λ (v : Parted). v.rows) w.words-is) w.free-is w.to-is w.kept-is c.loop-scan.invariant.target
  ];
}

pub returns : goal.returns
returns c given f is =
    let s = c.loop-scan.invariant.so_far given f is in
    forward_part_end s.so_far (scan_past c.loop-scan.scan c.used-end.result f c.used-end.ensures c.loop-scan-test.false)
