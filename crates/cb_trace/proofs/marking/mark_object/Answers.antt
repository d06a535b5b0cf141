use Rattle.std.proofs.Common.{◌+◌, ◌<◌, ◌∷◌, ◌∙◌, arith, sym, ap, subst, false, true}
use Rattle.std.proofs.lemmas.Bool.{false≢true}
use Rattle.cb_partheap.specs.Heaps.{holds}
use Rattle.cb_trace.specs.Marking.{IsLooked, words_there}
use Rattle.cb_trace.proofs.Looking.{at_least, at_most, child_may, child_up, has_word, header_there, holds_told, looked_at, object_done, object_more, object_same, parts_now, shape_is, shape_there, size_read, word_is, word_there}
use Rattle.cb_trace.proofs.Steps.{asks}
use Rattle.cb_trace.proofs.marking.mark_object.Goals as goal
use Rattle.cb_trace.proofs.marking.mark_object.Goals.{then-holds, else-holds}

pub shape_at-shape-requires : goal.shape_at-shape-requires
shape_at-shape-requires g c = shape_there c.requires.2.stands c.args.shapes.now c.requires.2.shapes_are

pub returns-then-not-may_hold : goal.returns-then-not-may_hold
returns-then-not-may_hold g c given looked l =
    let kinds = shape_is l.stands c.args.shapes.now c.shape_at-shape.result.now l.shapes_are c.shape_at-shape.ensures in
    looked_at c.args.steps.now c.tick-3.new.self l.stands (λ spot here some. some) (omega arith) (omega (arith, at_least l.stands))
    (λ spot here place k below told. absurd (false≢true (sym (c.may_hold.ensures c.if-not-may_hold.true k) ∙ sym (ap (λ found. holds found k) (kinds spot here place)) ∙ told)))

pub object_words-requires : goal.object_words-requires
object_words-requires g c = header_there c.requires.2.stands

pub overflow_sub-size : goal.overflow_sub-size
overflow_sub-size g c = omega (arith, size_read c.requires.2.stands c.object_words.result c.object_words.ensures, at_least c.requires.2.stands)

pub overflow_cast-size : goal.overflow_cast-size
overflow_cast-size g c = omega (arith, size_read c.requires.2.stands c.object_words.result c.object_words.ensures, at_most c.requires.2.stands)

pub holds-requires : goal.holds-requires
holds-requires g c =
    let l = c.requires.2 in
    let below : 3 + c.loop-i.i < words_there c.requires.0.heap.memory c.args.at = omega (arith, c.loop-i-test.true, size_read l.stands c.object_words.result c.object_words.ensures) in
    has_word l.stands c.loop-i.i c.shape_at-shape.result.now below (shape_is l.stands c.args.shapes.now c.shape_at-shape.result.now l.shapes_are c.shape_at-shape.ensures)

pub word_at-to-requires : goal.word_at-to-requires
word_at-to-requires g c =
    let l = c.requires.2 in
    let below : 3 + c.loop-i.i < words_there c.requires.0.heap.memory c.args.at = omega (arith, c.loop-i-test.true, size_read l.stands c.object_words.result c.object_words.ensures) in
    word_there (c.loop-i.invariant.so_far c.requires.0 c.requires.1 l).stands c.loop-i.i below

pub mark_reference-requires-clause-found : goal.mark_reference-requires-clause-found
mark_reference-requires-clause-found g c some =
    let l = c.requires.2 in
    let s = (c.loop-i.invariant.so_far c.requires.0 c.requires.1 l).stands in
    let below : 3 + c.loop-i.i < words_there c.requires.0.heap.memory c.args.at = omega (arith, c.loop-i-test.true, size_read l.stands c.object_words.result c.object_words.ensures) in
    let kinds = shape_is l.stands c.args.shapes.now c.shape_at-shape.result.now l.shapes_are c.shape_at-shape.ensures in
    let told = holds_told c.shape_at-shape.result.now c.loop-i.i c.holds.result true c.holds.ensures c.if-holds.true in
    asks c.loop-i.grey (c.args.at ∷ c.loop-i.grey.places) c.word_at-to.result s.is (omega arith) s.room
    (child_may s c.loop-i.i c.word_at-to.result c.shape_at-shape.result.now below kinds told c.word_at-to.ensures) some

pub mark_reference-requires-clause-parts : goal.mark_reference-requires-clause-parts
mark_reference-requires-clause-parts g c = (parts_now (c.loop-i.invariant.so_far c.requires.0 c.requires.1 c.requires.2).stands).0

pub mark_reference-requires-clause-few : goal.mark_reference-requires-clause-few
mark_reference-requires-clause-few g c = (parts_now (c.loop-i.invariant.so_far c.requires.0 c.requires.1 c.requires.2).stands).1

pub loop-i-preserved : goal.loop-i-preserved
loop-i-preserved g c = record {
  so_far = λ given looked l.
      let o = c.loop-i.invariant.so_far given looked l in
      let below : 3 + c.loop-i.i < words_there given.heap.memory c.args.at = omega (arith, c.loop-i-test.true, size_read l.stands c.object_words.result c.object_words.ensures) in
      let kinds = shape_is l.stands c.args.shapes.now c.shape_at-shape.result.now l.shapes_are c.shape_at-shape.ensures in
      elim c.if-holds.branch [
        | then-holds w ↦
            let told = holds_told c.shape_at-shape.result.now c.loop-i.i c.holds.result true c.holds.ensures w.if-holds.true in
            let may = child_may o.stands c.loop-i.i w.word_at-to.result c.shape_at-shape.result.now below kinds told w.word_at-to.ensures in
            let up = child_up w.mark_reference.new.words c.loop-i.grey w.mark_reference.new.grey w.word_at-to.result o.stands may w.mark_reference.ensures.null w.mark_reference.ensures.found in
            object_same w.mark_reference.new.words c.if-holds.words w.mark_reference.new.grey c.if-holds.grey w.words-is w.grey-is
            (object_more o up.stands up.stays
            (λ spot here place marked. subst (IsLooked given w.mark_reference.new.words) (sym (word_is o.stands c.loop-i.i w.word_at-to.result below w.word_at-to.ensures spot here place)) up.looked_is))
        | else-holds w ↦
            object_same c.loop-i.words c.if-holds.words c.loop-i.grey c.if-holds.grey w.words-is w.grey-is
            (object_more o o.stands (λ spot here some. some)
            (λ spot here place told.
            let none = holds_told c.shape_at-shape.result.now c.loop-i.i c.holds.result false c.holds.ensures w.if-holds.false in
            absurd (false≢true (sym none ∙ sym (ap (λ found. holds found c.loop-i.i) (kinds spot here place)) ∙ told))))
      ];
  counted = omega (arith, c.tick-in-loop-i.ensures, c.loop-i.invariant.counted);
}

pub returns : goal.returns
returns g c given looked l =
    let size = size_read l.stands c.object_words.result c.object_words.ensures in
    object_done c.args.steps.now c.loop-i.steps (c.loop-i.invariant.so_far given looked l) (omega (arith, size, at_least l.stands, c.loop-i-test.false, c.loop-i.auto.i-end)) c.loop-i.invariant.counted
