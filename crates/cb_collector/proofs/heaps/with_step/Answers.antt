use Rattle.std.proofs.Common.{◌≡◌, ◌∙◌, ◌<◌, ap, arith, length, sym}
use Rattle.cb_partheap.specs.Heaps.{Heap, objects_in}
use Rattle.cb_partheap.proofs.Laws.{length_objects}
use Rattle.cb_collector.proofs.Collections.{asked_none, asked_some}
use Rattle.cb_collector.proofs.heaps.with_step.Goals as goal

pub returns-then-heap-eq1 : goal.returns-then-heap-eq1
returns-then-heap-eq1 c =
    let next : c.heap.inside.next ≡ c.args.heap.now.next = ap (λ (h : Heap). h.next) c.heap.view_is in
    let none : length (objects_in c.args.heap.now) ≡ 0 = omega (arith, next, c.if-heap-eq1.true, length_objects c.args.heap.now) in
    sym (asked_none (objects_in c.args.heap.now) c.args.asked none)

pub returns : goal.returns
returns c =
    let next : c.heap.inside.next ≡ c.args.heap.now.next = ap (λ (h : Heap). h.next) c.heap.view_is in
    let some : 0 < length (objects_in c.args.heap.now) = omega (arith, next, c.if-heap-eq1.false, c.heap.invariant.some, length_objects c.args.heap.now) in
    c.one_more.ensures ∙ sym (asked_some (objects_in c.args.heap.now) c.args.asked some)
