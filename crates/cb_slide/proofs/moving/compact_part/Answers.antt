use Rattle.std.proofs.Common.{◌∙◌, refl, ap, arith}
use Rattle.cb_blocks.specs.Parted.{Parted}
use Rattle.cb_slide.proofs.Ends.{ends_on, same_ends}
use Rattle.cb_slide.proofs.Compacts.{below_now, blocks_now, compact_gone, compact_kept, compact_less, compact_past, fits_compact, header_compact, part_done, part_fits, run_fits, same_compact, scan_begins, size_compact, used_low}
use Rattle.cb_slide.proofs.Forwards.{spot_at}
use Rattle.cb_slide.proofs.moving.compact_part.Goals as goal
use Rattle.cb_slide.proofs.moving.compact_part.Goals.{then-mark_at-ne0, else-mark_at-ne0}

pub loop-scan-init : goal.loop-scan-init
loop-scan-init g c = record {
  so_far = λ given before s is. scan_begins s is;
  counted = omega arith;
  object = record { behind = omega arith; there = c.first_place-at.ensures };
  source = record { behind = omega arith; there = c.first_place-at.ensures };
  target = record { behind = omega arith; there = c.first_place-at.ensures };
}

pub place_past-at-requires-clause-behind : goal.place_past-at-requires-clause-behind
place_past-at-requires-clause-behind g c = c.loop-scan.invariant.object.behind

pub place_past-at-requires-clause-there : goal.place_past-at-requires-clause-there
place_past-at-requires-clause-there g c =
    let r = c.requires in
    let less = compact_less r.2 r.3 c.loop-scan.scan c.used-end.result c.used-end.ensures c.loop-scan-test.true in
    c.loop-scan.invariant.object.there (blocks_now r.2 r.3 (c.loop-scan.invariant.so_far r.0 r.1 r.2 r.3) less)

pub object_words-size-requires : goal.object_words-size-requires
object_words-size-requires g c =
    let r = c.requires in
    let less = compact_less r.2 r.3 c.loop-scan.scan c.used-end.result c.used-end.ensures c.loop-scan-test.true in
    (spot_at c.args.part c.loop-scan.scan, header_compact r.2 r.3 (c.loop-scan.invariant.so_far r.0 r.1 r.2 r.3) less c.place_past-at.result c.place_past-at.ensures.place)

pub mark_at-requires : goal.mark_at-requires
mark_at-requires g c =
    let r = c.requires in
    let less = compact_less r.2 r.3 c.loop-scan.scan c.used-end.result c.used-end.ensures c.loop-scan-test.true in
    (spot_at c.args.part c.loop-scan.scan, header_compact r.2 r.3 (c.loop-scan.invariant.so_far r.0 r.1 r.2 r.3) less c.place_past-at.result c.place_past-at.ensures.place)

pub set_mark_at-requires-clause-there : goal.set_mark_at-requires-clause-there
set_mark_at-requires-clause-there g c =
    let r = c.requires in
    let less = compact_less r.2 r.3 c.loop-scan.scan c.used-end.result c.used-end.ensures c.loop-scan-test.true in
    (spot_at c.args.part c.loop-scan.scan, header_compact r.2 r.3 (c.loop-scan.invariant.so_far r.0 r.1 r.2 r.3) less c.place_past-at.result c.place_past-at.ensures.place)

pub move_run-last-requires-clause-part : goal.move_run-last-requires-clause-part
move_run-last-requires-clause-part g c = let r = c.requires in below_now r.2 r.3 (c.loop-scan.invariant.so_far r.0 r.1 r.2 r.3)

pub move_run-last-requires-clause-order : goal.move_run-last-requires-clause-order
move_run-last-requires-clause-order g c = let r = c.requires in (run_fits r.2 r.3 (c.loop-scan.invariant.so_far r.0 r.1 r.2 r.3)).1

pub move_run-last-requires-clause-inside : goal.move_run-last-requires-clause-inside
move_run-last-requires-clause-inside g c = let r = c.requires in (run_fits r.2 r.3 (c.loop-scan.invariant.so_far r.0 r.1 r.2 r.3)).2

pub overflow_add-free : goal.overflow_add-free
overflow_add-free g c =
    let r = c.requires in
    let fits = run_fits r.2 r.3 (c.loop-scan.invariant.so_far r.0 r.1 r.2 r.3) in
    omega (arith, fits.0, fits.1, fits.3)

pub overflow_add-first : goal.overflow_add-first
overflow_add-first g c =
    let r = c.requires in
    let s = c.loop-scan.invariant.so_far r.0 r.1 r.2 r.3 in
    let less = compact_less r.2 r.3 c.loop-scan.scan c.used-end.result c.used-end.ensures c.loop-scan-test.true in
    let size = size_compact r.2 r.3 s less c.place_past-at.result c.place_past-at.ensures.place c.object_words-size.result c.object_words-size.ensures in
    omega (arith, (fits_compact r.2 r.3 s less c.place_past-at.result c.place_past-at.ensures.place c.object_words-size.result size).0)

pub overflow_add-scan : goal.overflow_add-scan
overflow_add-scan g c =
    let r = c.requires in
    let s = c.loop-scan.invariant.so_far r.0 r.1 r.2 r.3 in
    let less = compact_less r.2 r.3 c.loop-scan.scan c.used-end.result c.used-end.ensures c.loop-scan-test.true in
    let size = size_compact r.2 r.3 s less c.place_past-at.result c.place_past-at.ensures.place c.object_words-size.result c.object_words-size.ensures in
    omega (arith, (fits_compact r.2 r.3 s less c.place_past-at.result c.place_past-at.ensures.place c.object_words-size.result size).0)

pub loop-scan-smaller : goal.loop-scan-smaller
loop-scan-smaller g c =
    let r = c.requires in
    let s = c.loop-scan.invariant.so_far r.0 r.1 r.2 r.3 in
    let less = compact_less r.2 r.3 c.loop-scan.scan c.used-end.result c.used-end.ensures c.loop-scan-test.true in
    let size = size_compact r.2 r.3 s less c.place_past-at.result c.place_past-at.ensures.place c.object_words-size.result c.object_words-size.ensures in
    omega (arith, (fits_compact r.2 r.3 s less c.place_past-at.result c.place_past-at.ensures.place c.object_words-size.result size).1, c.loop-scan-test.true)

pub loop-scan-preserved : goal.loop-scan-preserved
loop-scan-preserved g c = record {
  so_far = λ given before t is.
      let s = c.loop-scan.invariant.so_far given before t is in
      let less = compact_less t is c.loop-scan.scan c.used-end.result c.used-end.ensures c.loop-scan-test.true in
      let at = c.place_past-at.result in
      let place = c.place_past-at.ensures.place in
      let size = size_compact t is s less at place c.object_words-size.result c.object_words-size.ensures in
      elim c.if-mark_at-ne0.branch [
        | then-mark_at-ne0 w ↦
            same_compact w.set_mark_at.new.words c.if-mark_at-ne0.words _ c.if-mark_at-ne0.free _ c.if-mark_at-ne0.first w.words-is w.free-is w.first-is
            (compact_kept t is s less at place c.object_words-size.result c.mark_at.result w.set_mark_at.new.words size c.mark_at.ensures w.if-mark_at-ne0.true w.set_mark_at.ensures)
        | else-mark_at-ne0 w ↦
            same_compact w.move_run-last.new.words c.if-mark_at-ne0.words _ c.if-mark_at-ne0.free _ c.if-mark_at-ne0.first w.words-is w.free-is w.first-is
            (compact_gone t is s less at place c.object_words-size.result c.mark_at.result w.move_run-last.new.words size c.mark_at.ensures w.if-mark_at-ne0.false w.move_run-last.ensures.words)
      ];
  counted = elim c.if-mark_at-ne0.branch [
    | then-mark_at-ne0 w ↦ omega (arith, w.steps-is, w.free-is, c.loop-scan.invariant.counted)
    | else-mark_at-ne0 w ↦ omega (arith, w.steps-is, w.free-is, w.move_run-last.ensures.counted, c.loop-scan.invariant.counted)
  ];
  object =
      let ends = ends_on c.loop-scan.words.rows c.args.part c.loop-scan.scan c.place_past-at.result c.object_words-size.result c.place_past-at.ensures.place in
      elim c.if-mark_at-ne0.branch [
        | then-mark_at-ne0 w ↦ same_ends c.args.part c.loop-scan.words.rows c.if-mark_at-ne0.words.rows _ _ _ _ _ _ (ap (λ (v : Parted). v.rows) (w.words-is ∙ w.set_mark_at.ensures (spot_at c.args.part c.loop-scan.scan) (let r = c.requires in header_compact r.2 r.3 (c.loop-scan.invariant.so_far r.0 r.1 r.2 r.3) (compact_less r.2 r.3 c.loop-scan.scan c.used-end.result c.used-end.ensures c.loop-scan-test.true) c.place_past-at.result c.place_past-at.ensures.place))) refl refl refl ends
        | else-mark_at-ne0 w ↦ same_ends c.args.part c.loop-scan.words.rows c.if-mark_at-ne0.words.rows _ _ _ _ _ _ (ap (λ (v : Parted). v.rows) (w.words-is ∙ w.move_run-last.ensures.words)) refl refl refl ends
      ];
  source = elim c.if-mark_at-ne0.branch [
    | then-mark_at-ne0 w ↦
        same_ends c.args.part c.loop-scan.words.rows c.if-mark_at-ne0.words.rows _ _ _ _ _ _ (ap (λ (v : Parted). v.rows) (w.words-is ∙ w.set_mark_at.ensures (spot_at c.args.part c.loop-scan.scan) (let r = c.requires in header_compact r.2 r.3 (c.loop-scan.invariant.so_far r.0 r.1 r.2 r.3) (compact_less r.2 r.3 c.loop-scan.scan c.used-end.result c.used-end.ensures c.loop-scan-test.true) c.place_past-at.result c.place_past-at.ensures.place))) w.first-is (ap (λ p. p.0) w.gap-is) (ap (λ p. p.1) w.gap-is) c.loop-scan.invariant.source
    | else-mark_at-ne0 w ↦
        same_ends c.args.part c.loop-scan.words.rows c.if-mark_at-ne0.words.rows _ _ _ _ _ _ (ap (λ (v : Parted). v.rows) (w.words-is ∙ w.move_run-last.ensures.words)) w.first-is (ap (λ p. p.0) w.gap-is) (ap (λ p. p.1) w.gap-is)
        (ends_on c.loop-scan.words.rows c.args.part c.loop-scan.scan c.place_past-at.result c.object_words-size.result c.place_past-at.ensures.place)
  ];
  target = elim c.if-mark_at-ne0.branch [
    | then-mark_at-ne0 w ↦
        same_ends c.args.part c.loop-scan.words.rows c.if-mark_at-ne0.words.rows _ _ _ _ _ _ (ap (λ (v : Parted). v.rows) (w.words-is ∙ w.set_mark_at.ensures (spot_at c.args.part c.loop-scan.scan) (let r = c.requires in header_compact r.2 r.3 (c.loop-scan.invariant.so_far r.0 r.1 r.2 r.3) (compact_less r.2 r.3 c.loop-scan.scan c.used-end.result c.used-end.ensures c.loop-scan-test.true) c.place_past-at.result c.place_past-at.ensures.place))) w.free-is (ap (λ p. p.0) w.last-is) (ap (λ p. p.1) w.last-is) c.loop-scan.invariant.target
    | else-mark_at-ne0 w ↦
        same_ends c.args.part w.move_run-last.new.words.rows c.if-mark_at-ne0.words.rows _ _ _ _ _ _ (ap (λ (v : Parted). v.rows) w.words-is) w.free-is (ap (λ p. p.0) w.last-is) (ap (λ p. p.1) w.last-is) w.move_run-last.ensures.behind
  ];
}

pub move_run-last-requires-2-clause-part : goal.move_run-last-requires-2-clause-part
move_run-last-requires-2-clause-part g c = let r = c.requires in below_now r.2 r.3 (c.loop-scan.invariant.so_far r.0 r.1 r.2 r.3)

pub move_run-last-requires-2-clause-order : goal.move_run-last-requires-2-clause-order
move_run-last-requires-2-clause-order g c = let r = c.requires in (run_fits r.2 r.3 (c.loop-scan.invariant.so_far r.0 r.1 r.2 r.3)).1

pub move_run-last-requires-2-clause-inside : goal.move_run-last-requires-2-clause-inside
move_run-last-requires-2-clause-inside g c = let r = c.requires in (run_fits r.2 r.3 (c.loop-scan.invariant.so_far r.0 r.1 r.2 r.3)).2

pub overflow_add-free-2 : goal.overflow_add-free-2
overflow_add-free-2 g c =
    let r = c.requires in
    let fits = run_fits r.2 r.3 (c.loop-scan.invariant.so_far r.0 r.1 r.2 r.3) in
    omega (arith, fits.0, fits.1, fits.3)

pub shrink-requires-clause-part : goal.shrink-requires-clause-part
shrink-requires-clause-part g c =
    let r = c.requires in
    (part_fits r.2 r.3 (c.loop-scan.invariant.so_far r.0 r.1 r.2 r.3) (compact_past r.2 r.3 c.loop-scan.scan c.used-end.result c.used-end.ensures c.loop-scan-test.false) c.move_run-last-2.new.words c.move_run-last-2.ensures.words).0

pub shrink-requires-clause-fewer : goal.shrink-requires-clause-fewer
shrink-requires-clause-fewer g c =
    let r = c.requires in
    (part_fits r.2 r.3 (c.loop-scan.invariant.so_far r.0 r.1 r.2 r.3) (compact_past r.2 r.3 c.loop-scan.scan c.used-end.result c.used-end.ensures c.loop-scan-test.false) c.move_run-last-2.new.words c.move_run-last-2.ensures.words).1

pub returns : goal.returns
returns g c given before t is =
    let s = c.loop-scan.invariant.so_far given before t is in
    let past = compact_past t is c.loop-scan.scan c.used-end.result c.used-end.ensures c.loop-scan-test.false in (
      part_done t is s past c.move_run-last-2.new.words c.move_run-last-2.ensures.words c.shrink.new.self c.blocks_free-sound.ensures.sound c.shrink.ensures,
      omega (arith, c.move_run-last-2.ensures.counted, c.loop-scan.invariant.counted, used_low t is s past c.move_run-last-2.new.words c.move_run-last-2.ensures.words),
    )
