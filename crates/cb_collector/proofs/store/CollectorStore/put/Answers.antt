use Rattle.std.proofs.Common.{◌∙◌, IsTrue, ap, refl, subst, sym, w64}
use Rattle.std.specs.Int.{int_wrap}
use Rattle.std.specs.Prelude.{pos}
use Rattle.cb_plain.specs.State.{Number}
use Rattle.cb_heap.specs.Kept.{content_at, is_number, with_content}
use Rattle.cb_heap.specs.Reading.{serial_of}
use Rattle.cb_partheap.specs.Heaps.{Heap, index_in, objects_in, settings_in}
use Rattle.cb_collector.proofs.Collections.{heap_of, output_of}
use Rattle.cb_collector.proofs.Puts.{known_put, put_is, still_put}
use Rattle.cb_collector.proofs.store.CollectorStore.put.Goals as goal

pub put-requires : goal.put-requires
put-requires g c = subst (λ (h : Heap). IsTrue (is_number (content_at (objects_in h) (serial_of (index_in h) c.args.at) c.args.i))) (sym (heap_of c.self.view_is)) c.requires

pub invariant_of-self : goal.invariant_of-self
invariant_of-self g c =
    let there = subst (λ (h : Heap). IsTrue (is_number (content_at (objects_in h) (serial_of (index_in h) c.args.at) c.args.i))) (sym (heap_of c.self.view_is)) c.requires in
    still_put c.self.inside.heap c.put.new.self c.args.i c.args.word (put_is is_number refl c.self.inside.heap c.put.new.self c.args.at c.args.i c.args.word c.whole.ensures there c.put.ensures.words) _ c.self.inside.blocks c.self.inside.all refl
    c.self.invariant (c.put.ensures.unmarked c.self.invariant.unmarked)

pub returns-clause-kept : goal.returns-clause-kept
returns-clause-kept g c =
    c.put.ensures.kept ∙ ap (λ (h : Heap). with_content (objects_in h) (serial_of (index_in h) c.args.at) c.args.i (Number (int_wrap w64 (pos c.args.word)))) (heap_of c.self.view_is)

pub returns-clause-places : goal.returns-clause-places
returns-clause-places g c = c.put.ensures.places ∙ ap index_in (heap_of c.self.view_is)

pub returns-clause-facts : goal.returns-clause-facts
returns-clause-facts g c =
    let there = subst (λ (h : Heap). IsTrue (is_number (content_at (objects_in h) (serial_of (index_in h) c.args.at) c.args.i))) (sym (heap_of c.self.view_is)) c.requires in
    known_put c.self.inside.heap c.put.new.self c.args.i c.args.word (put_is is_number refl c.self.inside.heap c.put.new.self c.args.at c.args.i c.args.word c.whole.ensures there c.put.ensures.words) g.K.Sink.taken _ _ c.self.view_is refl

pub returns-clause-granted : goal.returns-clause-granted
returns-clause-granted g c = c.put.ensures.granted ∙ ap (λ (h : Heap). h.granted) (heap_of c.self.view_is)

pub returns-clause-faults : goal.returns-clause-faults
returns-clause-faults g c = ap g.K.Sink.faults (output_of c.self.view_is)

pub returns-clause-settings : goal.returns-clause-settings
returns-clause-settings g c = c.put.ensures.settings ∙ ap settings_in (heap_of c.self.view_is)
