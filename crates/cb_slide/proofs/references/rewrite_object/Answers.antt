use Rattle.std.proofs.Common.{◌+◌, arith, sym, refl, subst, true, false}
use Rattle.cb_blocks.specs.Parted.{Parted}
use Rattle.cb_slide.specs.Sliding.{RewrittenTo}
use Rattle.cb_slide.proofs.Rewriting.{all_done, child_is, has_word, header_followed, holds_is, kinds, none_held, parts_read, shape_there, size_small, word_done, word_passed, word_read, word_there}
use Rattle.cb_slide.proofs.references.rewrite_object.Goals as goal
use Rattle.cb_slide.proofs.references.rewrite_object.Goals.{then-holds, else-holds}

pub shape_at-shape-requires : goal.shape_at-shape-requires
shape_at-shape-requires g c = shape_there c.requires.2

pub returns-then-not-may_hold-clause-written : goal.returns-then-not-may_hold-clause-written
returns-then-not-may_hold-clause-written g c given spot x =
    let is = kinds x c.shape_at-shape.result.now c.shape_at-shape.ensures in
    none_held x (λ i. holds_is x c.shape_at-shape.result.now i false false is (sym (c.may_hold.ensures c.if-not-may_hold.true i)) refl)

pub overflow_cast-i : goal.overflow_cast-i
overflow_cast-i g c = omega (arith, size_small c.requires.2, c.loop-i-test.true)

pub holds-requires : goal.holds-requires
holds-requires g c = has_word c.requires.2 c.shape_at-shape.result.now c.loop-i.i (kinds c.requires.2 c.shape_at-shape.result.now c.shape_at-shape.ensures) c.loop-i-test.true

pub overflow_add-i : goal.overflow_add-i
overflow_add-i g c = omega (arith, size_small c.requires.2, c.loop-i-test.true)

pub word_at-to-requires : goal.word_at-to-requires
word_at-to-requires g c = (c.requires.1, word_there c.requires.2 c.loop-i.words c.loop-i.i (c.loop-i.invariant.so_far c.requires.0 c.requires.1 c.requires.2).forwarded c.loop-i-test.true)

pub new_place-word-requires-clause-found : goal.new_place-word-requires-clause-found
new_place-word-requires-clause-found g c some =
    let x = c.requires.2 in
    let r = c.loop-i.invariant.so_far c.requires.0 c.requires.1 x in
    let is = kinds x c.shape_at-shape.result.now c.shape_at-shape.ensures in
    let word = word_read x c.loop-i.words c.loop-i.i c.word_at-to.result r c.loop-i-test.true c.word_at-to.ensures in
    let told = holds_is x c.shape_at-shape.result.now c.loop-i.i c.holds.result true is c.holds.ensures c.if-holds.true in
    header_followed c.word_at-to.result r.forwarded (child_is x c.loop-i.i c.word_at-to.result c.loop-i-test.true word told) some

pub new_place-word-requires-clause-parts : goal.new_place-word-requires-clause-parts
new_place-word-requires-clause-parts g c = (parts_read c.args.set.now (c.loop-i.invariant.so_far c.requires.0 c.requires.1 c.requires.2).forwarded c.requires.2.set_is).0

pub new_place-word-requires-clause-few : goal.new_place-word-requires-clause-few
new_place-word-requires-clause-few g c = (parts_read c.args.set.now (c.loop-i.invariant.so_far c.requires.0 c.requires.1 c.requires.2).forwarded c.requires.2.set_is).1

pub overflow_add-i-then-holds : goal.overflow_add-i-then-holds
overflow_add-i-then-holds g c = omega (arith, size_small c.requires.2, c.loop-i-test.true)

pub put_place-requires-clause-there : goal.put_place-requires-clause-there
put_place-requires-clause-there g c = (c.requires.1, word_there c.requires.2 c.loop-i.words c.loop-i.i (c.loop-i.invariant.so_far c.requires.0 c.requires.1 c.requires.2).forwarded c.loop-i-test.true)

pub loop-i-preserved : goal.loop-i-preserved
loop-i-preserved g c = record {
  so_far = λ given spot x.
      let r = c.loop-i.invariant.so_far given spot x in
      let is = kinds x c.shape_at-shape.result.now c.shape_at-shape.ensures in
      elim c.if-holds.branch [
        | then-holds w ↦
            let word = word_read x c.loop-i.words c.loop-i.i w.word_at-to.result r c.loop-i-test.true w.word_at-to.ensures in
            let told = holds_is x c.shape_at-shape.result.now c.loop-i.i c.holds.result true is c.holds.ensures w.if-holds.true in
            subst (λ (m : Parted). RewrittenTo given m spot.part (spot.start + (3 + (c.loop-i.i + 1)))) (sym w.words-is)
            (word_done x c.loop-i.words w.put_place.new.words c.loop-i.i w.word_at-to.result w.new_place-word.result r c.loop-i-test.true word told w.new_place-word.ensures.null w.new_place-word.ensures.found w.put_place.ensures)
        | else-holds w ↦
            subst (λ (m : Parted). RewrittenTo given m spot.part (spot.start + (3 + (c.loop-i.i + 1)))) (sym w.words-is)
            (word_passed x c.loop-i.words c.loop-i.i r c.loop-i-test.true (holds_is x c.shape_at-shape.result.now c.loop-i.i c.holds.result false is c.holds.ensures w.if-holds.false))
      ];
  counted = omega (arith, c.tick.ensures, c.loop-i.invariant.counted);
}

pub returns-clause-written : goal.returns-clause-written
returns-clause-written g c given spot x = all_done x c.loop-i.words c.loop-i.i (c.loop-i.invariant.so_far given spot x) (omega (arith, c.loop-i-test.false, c.loop-i.auto.i-end))
