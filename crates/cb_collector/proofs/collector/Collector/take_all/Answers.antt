use Rattle.std.proofs.Common.{◌∙◌, ap, subst, sym}
use Rattle.cb_heap.specs.Closed.{Collects, IsClosed}
use Rattle.cb_partheap.specs.Heaps.{Heap, settings_in}
use Rattle.cb_slide.specs.Collected.{view_of}
use Rattle.cb_collector.proofs.Collections.{all_closed, heap_of, output_of, still, takes_now}
use Rattle.cb_collector.proofs.collector.Collector.take_all.Goals as goal

pub sweep_uncounted-swept-requires-clause-set : goal.sweep_uncounted-swept-requires-clause-set
sweep_uncounted-swept-requires-clause-set g c = all_closed c.self.inside.heap c.self.inside.graph.edges c.self.inside.all c.self.invariant.grid c.self.invariant.all_are

pub sweep_uncounted-swept-requires-clause-closed : goal.sweep_uncounted-swept-requires-clause-closed
sweep_uncounted-swept-requires-clause-closed g c = subst (λ (h : Heap). IsClosed (view_of h c.args.roots.now.roots)) (sym (heap_of c.self.view_is)) c.requires

pub sweep_uncounted-swept-requires-clause-unmarked : goal.sweep_uncounted-swept-requires-clause-unmarked
sweep_uncounted-swept-requires-clause-unmarked g c = c.self.invariant.unmarked

pub sweep_uncounted-swept-requires-clause-knows : goal.sweep_uncounted-swept-requires-clause-knows
sweep_uncounted-swept-requires-clause-knows g c = c.self.invariant.knows

pub invariant_of-self : goal.invariant_of-self
invariant_of-self g c =
    still _ c.sweep_uncounted-swept.new.heap c.sweep_uncounted-swept.new.facts c.one_more-self-inside.result c.count.new.self c.self.inside.blocks c.self.inside.all c.self.invariant c.sweep_uncounted-swept.ensures.rest c.sweep_uncounted-swept.ensures.unmarked
    c.sweep_uncounted-swept.ensures.knows

pub returns-clause-takes : goal.returns-clause-takes
returns-clause-takes g c =
    takes_now g.K.Sink.taken c.sweep_uncounted-swept.new.heap c.sweep_uncounted-swept.new.facts c.one_more-self-inside.result c.count.new.self c.self.inside.all c.sweep_uncounted-swept.result.visited c.sweep_uncounted-swept.result.freed c.args.roots.now.roots
    c.sweep_uncounted-swept.new.roots.roots c.self.view_is c.self.invariant.all_are c.sweep_uncounted-swept.ensures.collected c.sweep_uncounted-swept.ensures.facts c.sweep_uncounted-swept.ensures.visited c.sweep_uncounted-swept.ensures.freed
    c.sweep_uncounted-swept.ensures.rest c.one_more-self-inside.ensures c.count.ensures

pub returns-clause-kept : goal.returns-clause-kept
returns-clause-kept g c =
    subst (λ (h : Heap). Collects (view_of h c.args.roots.now.roots) (view_of c.sweep_uncounted-swept.new.heap c.sweep_uncounted-swept.new.roots.roots)) (heap_of c.self.view_is) c.sweep_uncounted-swept.ensures.collected.collects

pub returns-clause-granted : goal.returns-clause-granted
returns-clause-granted g c = c.sweep_uncounted-swept.ensures.granted ∙ ap (λ (h : Heap). h.granted) (heap_of c.self.view_is)

pub returns-clause-settings : goal.returns-clause-settings
returns-clause-settings g c = c.sweep_uncounted-swept.ensures.settings ∙ ap settings_in (heap_of c.self.view_is)

pub returns-clause-output : goal.returns-clause-output
returns-clause-output g c = output_of c.self.view_is

pub returns-clause-limit : goal.returns-clause-limit
returns-clause-limit g c = c.sweep_uncounted-swept.ensures.limit
