use Rattle.std.proofs.Common.{◌≡◌, ◌+◌, ◌*◌, ◌≤◌, ℕ, false, true, length, subst, sym}
use Rattle.cb_frames.specs.Entries.{entries}
use Rattle.cb_heap.specs.Closed.{Collects, IsClosed}
use Rattle.cb_dag.specs.Marks.{marked}
use Rattle.cb_blocks.specs.Rows.{row}
use Rattle.cb_partheap.specs.Heaps.{Heap, objects_in}
use Rattle.cb_partheap.specs.MarkLaws.{words_in_set}
use Rattle.cb_partheap.specs.Marks.{IsClosedSet}
use Rattle.cb_partheap.specs.Spots.{IsSpot, Spot}
use Rattle.cb_slide.specs.Collected.{view_of}
use Rattle.cb_slide.specs.Sliding.{HasOtherWords, IsLeft}
use Rattle.cb_collector.proofs.Collections.{counts_now, graph_of, heap_of, output_of, still}
use Rattle.cb_collector.proofs.collector.Collector.collect.Goals as goal

pub sweep-swept-requires-clause-set : goal.sweep-swept-requires-clause-set
sweep-swept-requires-clause-set g c = subst (λ (h : Heap). IsClosedSet h c.args.set.now) (sym (heap_of c.self.view_is)) c.requires.set

pub sweep-swept-requires-clause-closed : goal.sweep-swept-requires-clause-closed
sweep-swept-requires-clause-closed g c = subst (λ (h : Heap). IsClosed (view_of h c.args.roots.now.roots)) (sym (heap_of c.self.view_is)) c.requires.closed

pub sweep-swept-requires-clause-unmarked : goal.sweep-swept-requires-clause-unmarked
sweep-swept-requires-clause-unmarked g c = c.self.invariant.unmarked

pub sweep-swept-requires-clause-knows : goal.sweep-swept-requires-clause-knows
sweep-swept-requires-clause-knows g c = c.self.invariant.knows

pub invariant_of-self : goal.invariant_of-self
invariant_of-self g c =
    still _ c.sweep-swept.new.heap c.sweep-swept.new.facts c.one_more-self-inside.result c.count.new.self c.self.inside.blocks c.self.inside.all c.self.invariant c.sweep-swept.ensures.rest c.sweep-swept.ensures.unmarked c.sweep-swept.ensures.knows

pub returns-clause-collected : goal.returns-clause-collected
returns-clause-collected g c = (
  c.sweep-swept.result.visited,
  c.sweep-swept.result.freed,
  counts_now g.K.Sink.taken c.sweep-swept.new.heap c.sweep-swept.new.facts c.one_more-self-inside.result c.count.new.self c.args.set.now true c.sweep-swept.result.visited c.sweep-swept.result.freed c.args.roots.now.roots c.sweep-swept.new.roots.roots
      c.self.view_is c.sweep-swept.ensures.collected c.sweep-swept.ensures.facts c.sweep-swept.ensures.visited c.sweep-swept.ensures.freed c.sweep-swept.ensures.rest c.one_more-self-inside.ensures c.count.ensures,
)

pub returns-clause-kept : goal.returns-clause-kept
returns-clause-kept g c = subst (λ (h : Heap). Collects (view_of h c.args.roots.now.roots) (view_of c.sweep-swept.new.heap c.sweep-swept.new.roots.roots)) (heap_of c.self.view_is) c.sweep-swept.ensures.collected.collects

pub returns-clause-outside : goal.returns-clause-outside
returns-clause-outside g c =
    subst (λ (h : Heap). (part : ℕ) → marked c.args.set.now part ≡ false → row c.sweep-swept.new.heap.memory.words part ≡ row h.memory.words part) (heap_of c.self.view_is) c.sweep-swept.ensures.outside

pub returns-clause-places : goal.returns-clause-places
returns-clause-places g c =
    subst (λ (h : Heap). (spot : Spot) → IsSpot h.memory spot → marked c.args.set.now spot.part ≡ false → IsLeft h c.sweep-swept.new.heap spot) (heap_of c.self.view_is) c.sweep-swept.ensures.places

pub returns-clause-rest : goal.returns-clause-rest
returns-clause-rest g c = subst (λ (h : Heap). HasOtherWords h c.sweep-swept.new.heap) (heap_of c.self.view_is) c.sweep-swept.ensures.rest

pub returns-clause-graph : goal.returns-clause-graph
returns-clause-graph g c = graph_of c.self.view_is

pub returns-clause-output : goal.returns-clause-output
returns-clause-output g c = output_of c.self.view_is

pub returns-clause-limit : goal.returns-clause-limit
returns-clause-limit g c = c.sweep-swept.ensures.limit

pub returns-clause-steps : goal.returns-clause-steps
returns-clause-steps g c =
    subst
    (λ (h : Heap). c.sweep-swept.new.steps ≤ c.args.steps.now + 2 * length (entries c.args.roots.now.roots) + words_in_set h c.args.set.now (objects_in c.sweep-swept.new.heap) + 2 * words_in_set h c.args.set.now (objects_in h))
    (heap_of c.self.view_is) c.sweep-swept.ensures.steps
