use Rattle.std.proofs.Common.{◌∙◌, ◌+◌, ◌++◌, ◌<◌, ◌≤◌, ◌^◌, [], ◌∷◌, IsTrue, Some, ap, false, get_or, length, subst, sym}
use Rattle.cb_plain.specs.Requests.{spent, words_at}
use Rattle.cb_plain.specs.State.{words_of}
use Rattle.cb_heap.specs.Shaped.{has_size, new_object}
use Rattle.cb_heap.specs.Store.{ReadsAsBefore}
use Rattle.cb_partheap.specs.Heaps.{Heap, index_in, objects_in, settings_in}
use Rattle.cb_collector.specs.Known.{facts_with, first_facts}
use Rattle.cb_collector.proofs.Collections.{heap_of, output_of}
use Rattle.cb_collector.proofs.Placing.{fresh_fits, part_known, placed_known, placed_still, site_known, used_fits}
use Rattle.cb_collector.proofs.store.CollectorStore.place.Goals as goal

pub part_for-part-requires : goal.part_for-part-requires
part_for-part-requires g c =
    let granted = subst (λ (h : Heap). words_of c.args.size ≤ words_at h.granted c.args.site) (sym (heap_of c.self.view_is)) c.requires.granted in
    site_known c.self.inside.heap c.self.inside.facts c.args.site c.args.size c.whole.ensures c.self.invariant.knows granted

pub learn_placed-requires-clause-part : goal.learn_placed-requires-clause-part
learn_placed-requires-clause-part g c =
    let granted = subst (λ (h : Heap). words_of c.args.size ≤ words_at h.granted c.args.site) (sym (heap_of c.self.view_is)) c.requires.granted in
    subst (λ p. p < length c.self.inside.facts) (sym c.part_for-part.ensures) (part_known c.self.inside.heap c.self.inside.facts c.args.site c.args.size c.whole.ensures c.self.invariant.knows granted)

pub learn_placed-requires-clause-used : goal.learn_placed-requires-clause-used
learn_placed-requires-clause-used g c =
    let granted = subst (λ (h : Heap). words_of c.args.size ≤ words_at h.granted c.args.site) (sym (heap_of c.self.view_is)) c.requires.granted in
    subst (λ p. (get_or c.self.inside.facts p (first_facts false p)).used + (3 + c.args.size) < 2 ^ 64) (sym c.part_for-part.ensures)
    (used_fits c.self.inside.heap c.self.inside.facts c.args.site c.args.size c.whole.ensures c.self.invariant.knows granted c.ranges.size.fits)

pub learn_placed-requires-clause-fresh : goal.learn_placed-requires-clause-fresh
learn_placed-requires-clause-fresh g c =
    let granted = subst (λ (h : Heap). words_of c.args.size ≤ words_at h.granted c.args.site) (sym (heap_of c.self.view_is)) c.requires.granted in
    subst (λ p. (get_or c.self.inside.facts p (first_facts false p)).fresh + (3 + c.args.size) < 2 ^ 64) (sym c.part_for-part.ensures)
    (fresh_fits c.self.inside.heap c.self.inside.facts c.args.site c.args.size c.whole.ensures c.self.invariant.knows granted c.ranges.size.fits)

pub place-at-requires-clause-granted : goal.place-at-requires-clause-granted
place-at-requires-clause-granted g c = subst (λ (h : Heap). words_of c.args.size ≤ words_at h.granted c.args.site) (sym (heap_of c.self.view_is)) c.requires.granted

pub place-at-requires-clause-shaped : goal.place-at-requires-clause-shaped
place-at-requires-clause-shaped g c = subst (λ (h : Heap). IsTrue (has_size h.shapes c.args.kind c.args.size)) (sym (heap_of c.self.view_is)) c.requires.shaped

pub place-at-requires-clause-serials : goal.place-at-requires-clause-serials
place-at-requires-clause-serials g c = subst (λ (h : Heap). length (objects_in h) + 1 < 2 ^ 63) (sym (heap_of c.self.view_is)) c.requires.serials

pub invariant_of-self : goal.invariant_of-self
invariant_of-self g c =
    let granted = subst (λ (h : Heap). words_of c.args.size ≤ words_at h.granted c.args.site) (sym (heap_of c.self.view_is)) c.requires.granted in
    let site = site_known c.self.inside.heap c.self.inside.facts c.args.site c.args.size c.whole.ensures c.self.invariant.knows granted in
    placed_still _ c.place-at.new.self c.args.site c.args.kind c.args.size c.learn_placed.new.facts c.self.inside.blocks c.self.inside.all c.place-at.ensures.rest c.place-at.ensures.words c.self.invariant
    (c.whole.ensures.site_within c.args.site site) c.whole-2.ensures (c.place-at.ensures.unmarked c.self.invariant.unmarked)
    (c.learn_placed.ensures ∙ ap (λ p. facts_with c.self.inside.facts p (words_of c.args.size)) c.part_for-part.ensures)

pub returns-clause-kept : goal.returns-clause-kept
returns-clause-kept g c = c.place-at.ensures.kept ∙ ap (λ (h : Heap). objects_in h ++ Some (new_object h.shapes c.args.site c.args.kind c.args.size) ∷ []) (heap_of c.self.view_is)

pub returns-clause-serial : goal.returns-clause-serial
returns-clause-serial g c = c.place-at.ensures.serial ∙ ap (λ (h : Heap). length (objects_in h) + 1) (heap_of c.self.view_is)

pub returns-clause-places : goal.returns-clause-places
returns-clause-places g c = subst (λ (h : Heap). ReadsAsBefore (objects_in h) (index_in h) (index_in c.place-at.new.self)) (heap_of c.self.view_is) c.place-at.ensures.places

pub returns-clause-facts : goal.returns-clause-facts
returns-clause-facts g c =
    placed_known g.K.Sink.taken c.place-at.new.self c.args.site c.args.kind c.args.size c.learn_placed.new.facts c.self.view_is c.place-at.ensures.rest c.place-at.ensures.words
    (c.learn_placed.ensures ∙ ap (λ p. facts_with c.self.inside.facts p (words_of c.args.size)) c.part_for-part.ensures)

pub returns-clause-granted : goal.returns-clause-granted
returns-clause-granted g c = c.place-at.ensures.granted ∙ ap (λ (h : Heap). spent h.granted c.args.site (words_of c.args.size)) (heap_of c.self.view_is)

pub returns-clause-faults : goal.returns-clause-faults
returns-clause-faults g c = ap g.K.Sink.faults (output_of c.self.view_is)

pub returns-clause-settings : goal.returns-clause-settings
returns-clause-settings g c = c.place-at.ensures.settings ∙ ap settings_in (heap_of c.self.view_is)
