use Rattle.std.proofs.Common.{◌∙◌, ap, subst, arith, length}
use Rattle.cb_heap.specs.Closed.{IsClosed}
use Rattle.cb_partheap.specs.Heaps.{Heap}
use Rattle.cb_partheap.specs.Marks.{MarksReached, staying}
use Rattle.cb_partheap.specs.Whole.{IsHeap}
use Rattle.cb_slide.specs.Collected.{view_of}
use Rattle.cb_collector.proofs.Learned.{knows_again}
use Rattle.cb_collector.proofs.Sweeps.{Leaves, facts_are, freed_are, numbers_below, same_view, visited_are, words_before, words_left}
use Rattle.cb_collector.proofs.sweep.sweep.Given.{Over}
use Rattle.cb_collector.proofs.sweep.sweep.Goals as goal
use Rattle.cb_collector.proofs.sweep.sweep.Goals.{After-learn}

pub slide-requires-clause-closed : goal.slide-requires-clause-closed
slide-requires-clause-closed g c = subst IsClosed (same_view c.args.heap.now c.mark.new.heap c.args.roots.now.roots c.mark.ensures.kept c.mark.ensures.places) c.requires.closed

pub slide-requires-clause-marked : goal.slide-requires-clause-marked
slide-requires-clause-marked g c =
    subst (λ view. MarksReached c.args.set.now view c.mark.new.heap) (same_view c.args.heap.now c.mark.new.heap c.args.roots.now.roots c.mark.ensures.kept c.mark.ensures.places) c.mark.ensures.marked

pub learn-requires-clause-within : goal.learn-requires-clause-within
learn-requires-clause-within g c = numbers_below c.args.heap.now c.args.facts.now (length c.args.set.now) c.requires.knows c.requires.set.parts

leaves : (g : Over) (c : After-learn g) → Leaves c.args.set.now c.args.heap.now c.mark.new.heap c.slide.new.heap (staying c.args.set.now c.mark.new.heap)
leaves g c =
    record {
      rest = c.mark.ensures.rest;
      kept = c.mark.ensures.kept;
      other = c.slide.ensures.rest;
      objects = c.slide.ensures.objects;
      outside = λ part out. c.slide.ensures.outside part out ∙ c.mark.ensures.outside part out;
      used_old = c.is_whole.ensures.used;
      used_new = c.is_whole-2.ensures.used;
    }

pub returns-clause-facts : goal.returns-clause-facts
returns-clause-facts g c =
    facts_are c.args.set.now c.args.heap.now c.mark.new.heap c.slide.new.heap (staying c.args.set.now c.mark.new.heap) (leaves g c) c.heap-2.inside.words (ap (λ (h : Heap). h.memory) c.heap-2.view_is)
    c.args.facts.now c.requires.knows c.learn.new.facts c.learn.ensures

pub returns-clause-visited : goal.returns-clause-visited
returns-clause-visited g c =
    visited_are c.args.set.now c.args.heap.now c.mark.new.heap c.slide.new.heap (staying c.args.set.now c.mark.new.heap) (leaves g c) c.heap-2.inside.words (ap (λ (h : Heap). h.memory) c.heap-2.view_is)
    c.words_there-visited.result c.words_there-visited.ensures

pub returns-clause-freed : goal.returns-clause-freed
returns-clause-freed g c =
    freed_are c.args.set.now c.args.heap.now c.mark.new.heap c.slide.new.heap (staying c.args.set.now c.mark.new.heap) (leaves g c) c.heap-2.inside.words (ap (λ (h : Heap). h.memory) c.heap-2.view_is)
    c.args.facts.now c.requires.knows c.words_gone-freed.result c.words_gone-freed.ensures

pub returns-clause-knows : goal.returns-clause-knows
returns-clause-knows g c =
    knows_again c.args.set.now c.args.heap.now c.mark.new.heap c.slide.new.heap (staying c.args.set.now c.mark.new.heap) c.heap-2.inside.words c.args.facts.now c.learn.new.facts (leaves g c) (ap (λ (h : Heap). h.memory) c.heap-2.view_is)
    c.requires.knows c.learn.ensures

pub returns-clause-steps : goal.returns-clause-steps
returns-clause-steps g c =
    let left = words_left c.args.set.now c.args.heap.now c.mark.new.heap c.slide.new.heap (staying c.args.set.now c.mark.new.heap) (leaves g c) in
    let before = words_before c.args.set.now c.args.heap.now c.mark.new.heap c.slide.new.heap (staying c.args.set.now c.mark.new.heap) (leaves g c) in
    let most = c.marks_take.ensures.words c.mark.new.heap c.args.set.now (view_of c.args.heap.now c.args.roots.now.roots) (subst IsHeap c.heap.view_is c.heap.invariant) c.mark.ensures.marked in
    omega (arith, c.mark.ensures.steps, c.slide.ensures.steps, left, before, most)
