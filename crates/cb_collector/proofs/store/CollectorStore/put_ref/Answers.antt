use Rattle.std.proofs.Common.{◌∙◌, IsTrue, ap, refl, subst, sym}
use Rattle.cb_plain.specs.State.{Reference}
use Rattle.cb_heap.specs.Kept.{content_at, is_held, is_reference, with_content}
use Rattle.cb_heap.specs.Store.{may_point}
use Rattle.cb_heap.specs.Reading.{serial_of}
use Rattle.cb_partheap.specs.Heaps.{Heap, index_in, objects_in, settings_in}
use Rattle.cb_collector.proofs.Collections.{heap_of, output_of}
use Rattle.cb_collector.proofs.Puts.{known_put, put_is, still_put}
use Rattle.cb_collector.proofs.store.CollectorStore.put_ref.Goals as goal

pub put_ref-requires-clause-there : goal.put_ref-requires-clause-there
put_ref-requires-clause-there g c = subst (λ (h : Heap). IsTrue (is_reference (content_at (objects_in h) (serial_of (index_in h) c.args.at) c.args.i))) (sym (heap_of c.self.view_is)) c.requires.there

pub put_ref-requires-clause-held : goal.put_ref-requires-clause-held
put_ref-requires-clause-held g c = subst (λ (h : Heap). IsTrue (is_held (objects_in h) (serial_of (index_in h) c.args.to))) (sym (heap_of c.self.view_is)) c.requires.held

pub put_ref-requires-clause-allowed : goal.put_ref-requires-clause-allowed
put_ref-requires-clause-allowed g c =
    subst (λ (h : Heap). IsTrue (may_point (settings_in h).allows (objects_in h) (serial_of (index_in h) c.args.at) (serial_of (index_in h) c.args.to))) (sym (heap_of c.self.view_is)) c.requires.allowed

pub invariant_of-self : goal.invariant_of-self
invariant_of-self g c =
    let there = subst (λ (h : Heap). IsTrue (is_reference (content_at (objects_in h) (serial_of (index_in h) c.args.at) c.args.i))) (sym (heap_of c.self.view_is)) c.requires.there in
    still_put c.self.inside.heap c.put_ref.new.self c.args.i c.args.to (put_is is_reference refl c.self.inside.heap c.put_ref.new.self c.args.at c.args.i c.args.to c.whole.ensures there c.put_ref.ensures.words) _ c.self.inside.blocks c.self.inside.all
    refl c.self.invariant (c.put_ref.ensures.unmarked c.self.invariant.unmarked)

pub returns-clause-kept : goal.returns-clause-kept
returns-clause-kept g c =
    c.put_ref.ensures.kept ∙ ap (λ (h : Heap). with_content (objects_in h) (serial_of (index_in h) c.args.at) c.args.i (Reference (serial_of (index_in h) c.args.to))) (heap_of c.self.view_is)

pub returns-clause-places : goal.returns-clause-places
returns-clause-places g c = c.put_ref.ensures.places ∙ ap index_in (heap_of c.self.view_is)

pub returns-clause-facts : goal.returns-clause-facts
returns-clause-facts g c =
    let there = subst (λ (h : Heap). IsTrue (is_reference (content_at (objects_in h) (serial_of (index_in h) c.args.at) c.args.i))) (sym (heap_of c.self.view_is)) c.requires.there in
    known_put c.self.inside.heap c.put_ref.new.self c.args.i c.args.to (put_is is_reference refl c.self.inside.heap c.put_ref.new.self c.args.at c.args.i c.args.to c.whole.ensures there c.put_ref.ensures.words) g.K.Sink.taken _ _ c.self.view_is refl

pub returns-clause-granted : goal.returns-clause-granted
returns-clause-granted g c = c.put_ref.ensures.granted ∙ ap (λ (h : Heap). h.granted) (heap_of c.self.view_is)

pub returns-clause-faults : goal.returns-clause-faults
returns-clause-faults g c = ap g.K.Sink.faults (output_of c.self.view_is)

pub returns-clause-settings : goal.returns-clause-settings
returns-clause-settings g c = c.put_ref.ensures.settings ∙ ap settings_in (heap_of c.self.view_is)
