use Rattle.std.proofs.Common.{◌∙◌, IsTrue, ap, arith, refl, subst, sym}
use Rattle.std.specs.List.{AllByRecursion}
use Rattle.cb_plain.specs.declared.want.Want.{Want}
use Rattle.cb_heap.specs.Closed.{IsClosed}
use Rattle.cb_partheap.specs.Heaps.{Heap, index_in, objects_in, settings_in}
use Rattle.cb_slide.specs.Collected.{view_of}
use Rattle.cb_collector.proofs.Collections.{heap_of, output_of, same_faults}
use Rattle.cb_collector.proofs.Rooms.{collects_via, refused_by, rests, roomy_by, then_by, unused_by}
use Rattle.cb_collector.proofs.store.CollectorStore.make_room.Goals as goal

pub grant-requires : goal.grant-requires
grant-requires g c = subst (λ (h : Heap). AllByRecursion (λ (want : Want). IsTrue ((settings_in h).knows want.site)) c.args.request.now) (sym (heap_of c.count_step.ensures)) c.requires.sites

-- there was room
pub returns-then-grant-clause-collected : goal.returns-then-grant-clause-collected
returns-then-grant-clause-collected g c =
    rests c.args.self.now.heap c.grant.new.self.heap c.args.roots.now.roots (c.grant.ensures.kept ∙ ap objects_in (heap_of c.count_step.ensures)) (c.grant.ensures.places ∙ ap index_in (heap_of c.count_step.ensures)) c.requires.closed

pub returns-then-grant-clause-limit : goal.returns-then-grant-clause-limit
returns-then-grant-clause-limit g c = refl

pub returns-then-grant-clause-ruled : goal.returns-then-grant-clause-ruled
returns-then-grant-clause-ruled g c =
    roomy_by g.K.Sink.taken c.args.self.now c.count_step.new.self c.grant.new.self c.args.roots.now.roots c.args.request.now c.count_step.ensures (c.grant.ensures.granted c.if-grant.true) (c.grant.ensures.room c.if-grant.true)
    ((c.grant.ensures.bounded c.if-grant.true).words refl) c.grant.ensures.kept

pub returns-then-grant-clause-granted : goal.returns-then-grant-clause-granted
returns-then-grant-clause-granted g c = ap (λ (h : Heap). h.granted) (heap_of (c.grant.ensures.granted c.if-grant.true))

pub returns-then-grant-clause-withheld : goal.returns-then-grant-clause-withheld
returns-then-grant-clause-withheld g c = λ err. absurd (cc err)

pub returns-then-grant-clause-bounded : goal.returns-then-grant-clause-bounded
returns-then-grant-clause-bounded g c = c.grant.ensures.bounded c.if-grant.true

pub returns-then-grant-clause-counted : goal.returns-then-grant-clause-counted
returns-then-grant-clause-counted g c =
    same_faults g.K.Sink.faults c.args.self.now.output c.grant.new.self.output _ (output_of (c.grant.ensures.granted c.if-grant.true) ∙ output_of c.count_step.ensures) (λ is. cc is)

pub returns-then-grant-clause-settings : goal.returns-then-grant-clause-settings
returns-then-grant-clause-settings g c = ap settings_in (heap_of (c.grant.ensures.granted c.if-grant.true)) ∙ ap settings_in (heap_of c.count_step.ensures)

-- nothing was used
pub full-requires : goal.full-requires
full-requires g c =
    subst (λ (h : Heap). AllByRecursion (λ (want : Want). IsTrue ((settings_in h).knows want.site)) c.args.request.now) (sym (heap_of (c.grant.ensures.refused c.if-grant.false) ∙ heap_of c.count_step.ensures)) c.requires.sites

pub returns-then-live-eq0-clause-collected : goal.returns-then-live-eq0-clause-collected
returns-then-live-eq0-clause-collected g c =
    rests c.args.self.now.heap c.grant.new.self.heap c.args.roots.now.roots (c.grant.ensures.kept ∙ ap objects_in (heap_of c.count_step.ensures)) (c.grant.ensures.places ∙ ap index_in (heap_of c.count_step.ensures)) c.requires.closed

pub returns-then-live-eq0-clause-limit : goal.returns-then-live-eq0-clause-limit
returns-then-live-eq0-clause-limit g c = refl

pub returns-then-live-eq0-clause-ruled : goal.returns-then-live-eq0-clause-ruled
returns-then-live-eq0-clause-ruled g c =
    unused_by g.K.Sink.taken c.args.self.now c.count_step.new.self c.grant.new.self c.args.roots.now.roots c.args.request.now c.count_step.ensures c.full.result (c.grant.ensures.refused c.if-grant.false) (c.grant.ensures.none c.if-grant.false)
    (sym c.live.ensures.live ∙ c.if-live-eq0.true) c.live.ensures.ready c.full.ensures

pub returns-then-live-eq0-clause-withheld : goal.returns-then-live-eq0-clause-withheld
returns-then-live-eq0-clause-withheld g c = λ err. ap (λ (h : Heap). h.granted) (heap_of (c.grant.ensures.refused c.if-grant.false) ∙ heap_of c.count_step.ensures)

pub returns-then-live-eq0-clause-counted : goal.returns-then-live-eq0-clause-counted
returns-then-live-eq0-clause-counted g c =
    same_faults g.K.Sink.faults c.args.self.now.output c.grant.new.self.output _ (output_of (c.grant.ensures.refused c.if-grant.false) ∙ output_of c.count_step.ensures) (λ is. cc (is, c.full.ensures))

pub returns-then-live-eq0-clause-settings : goal.returns-then-live-eq0-clause-settings
returns-then-live-eq0-clause-settings g c = ap settings_in (heap_of (c.grant.ensures.refused c.if-grant.false) ∙ heap_of c.count_step.ensures)

-- all parts are collected
pub take_all-requires : goal.take_all-requires
take_all-requires g c = subst (λ (h : Heap). IsClosed (view_of h c.args.roots.now.roots)) (sym (heap_of (c.grant.ensures.refused c.if-grant.false) ∙ heap_of c.count_step.ensures)) c.requires.closed

pub grant-requires-2 : goal.grant-requires-2
grant-requires-2 g c =
    subst (λ s. AllByRecursion (λ (want : Want). IsTrue (s.knows want.site)) c.args.request.now) (sym (c.take_all.ensures.settings ∙ ap settings_in (heap_of (c.grant.ensures.refused c.if-grant.false) ∙ heap_of c.count_step.ensures))) c.requires.sites

-- and there is room then
pub returns-then-grant-2-clause-collected : goal.returns-then-grant-2-clause-collected
returns-then-grant-2-clause-collected g c =
    collects_via c.grant.new.self.heap c.take_all.new.self.heap c.args.self.now.heap c.grant-2.new.self.heap c.args.roots.now.roots c.take_all.new.roots.roots (heap_of (c.grant.ensures.refused c.if-grant.false) ∙ heap_of c.count_step.ensures)
    c.grant-2.ensures.kept c.grant-2.ensures.places c.take_all.ensures.kept

pub returns-then-grant-2-clause-limit : goal.returns-then-grant-2-clause-limit
returns-then-grant-2-clause-limit g c = c.take_all.ensures.limit

pub returns-then-grant-2-clause-ruled : goal.returns-then-grant-2-clause-ruled
returns-then-grant-2-clause-ruled g c =
    then_by g.K.Sink.taken c.args.self.now c.count_step.new.self c.grant.new.self c.args.roots.now.roots c.args.request.now c.count_step.ensures c.take_all.new.self c.grant-2.new.self c.take_all.new.roots.roots (c.grant.ensures.refused c.if-grant.false)
    (c.grant.ensures.none c.if-grant.false) (omega (arith, c.live.ensures.live, c.if-live-eq0.false)) c.live.ensures.ready c.take_all.ensures.takes (c.grant-2.ensures.granted c.if-grant-2.true) (c.grant-2.ensures.room c.if-grant-2.true)
    ((c.grant-2.ensures.bounded c.if-grant-2.true).words refl) c.grant-2.ensures.kept

pub returns-then-grant-2-clause-granted : goal.returns-then-grant-2-clause-granted
returns-then-grant-2-clause-granted g c = ap (λ (h : Heap). h.granted) (heap_of (c.grant-2.ensures.granted c.if-grant-2.true))

pub returns-then-grant-2-clause-withheld : goal.returns-then-grant-2-clause-withheld
returns-then-grant-2-clause-withheld g c = λ err. absurd (cc err)

pub returns-then-grant-2-clause-bounded : goal.returns-then-grant-2-clause-bounded
returns-then-grant-2-clause-bounded g c = c.grant-2.ensures.bounded c.if-grant-2.true

pub returns-then-grant-2-clause-counted : goal.returns-then-grant-2-clause-counted
returns-then-grant-2-clause-counted g c =
    same_faults g.K.Sink.faults c.args.self.now.output c.grant-2.new.self.output _
    (output_of (c.grant-2.ensures.granted c.if-grant-2.true) ∙ c.take_all.ensures.output ∙ output_of (c.grant.ensures.refused c.if-grant.false) ∙ output_of c.count_step.ensures) (λ is. cc is)

pub returns-then-grant-2-clause-settings : goal.returns-then-grant-2-clause-settings
returns-then-grant-2-clause-settings g c =
    ap settings_in (heap_of (c.grant-2.ensures.granted c.if-grant-2.true)) ∙ c.take_all.ensures.settings ∙ ap settings_in (heap_of (c.grant.ensures.refused c.if-grant.false) ∙ heap_of c.count_step.ensures)

-- or there is none then either
pub full-requires-2 : goal.full-requires-2
full-requires-2 g c =
    subst (λ s. AllByRecursion (λ (want : Want). IsTrue (s.knows want.site)) c.args.request.now)
    (sym (ap settings_in (heap_of (c.grant-2.ensures.refused c.if-grant-2.false)) ∙ c.take_all.ensures.settings ∙ ap settings_in (heap_of (c.grant.ensures.refused c.if-grant.false) ∙ heap_of c.count_step.ensures))) c.requires.sites

pub returns-clause-collected : goal.returns-clause-collected
returns-clause-collected g c =
    collects_via c.grant.new.self.heap c.take_all.new.self.heap c.args.self.now.heap c.grant-2.new.self.heap c.args.roots.now.roots c.take_all.new.roots.roots (heap_of (c.grant.ensures.refused c.if-grant.false) ∙ heap_of c.count_step.ensures)
    c.grant-2.ensures.kept c.grant-2.ensures.places c.take_all.ensures.kept

pub returns-clause-limit : goal.returns-clause-limit
returns-clause-limit g c = c.take_all.ensures.limit

pub returns-clause-ruled : goal.returns-clause-ruled
returns-clause-ruled g c =
    refused_by g.K.Sink.taken c.args.self.now c.count_step.new.self c.grant.new.self c.args.roots.now.roots c.args.request.now c.count_step.ensures c.take_all.new.self c.grant-2.new.self c.take_all.new.roots.roots (c.grant.ensures.refused c.if-grant.false)
    (c.grant.ensures.none c.if-grant.false) (omega (arith, c.live.ensures.live, c.if-live-eq0.false)) c.live.ensures.ready c.take_all.ensures.takes c.full-2.result (c.grant-2.ensures.refused c.if-grant-2.false) (c.grant-2.ensures.none c.if-grant-2.false)
    c.full-2.ensures

pub returns-clause-withheld : goal.returns-clause-withheld
returns-clause-withheld g c = λ err.
    ap (λ (h : Heap). h.granted) (heap_of (c.grant-2.ensures.refused c.if-grant-2.false)) ∙ c.take_all.ensures.granted ∙ ap (λ (h : Heap). h.granted) (heap_of (c.grant.ensures.refused c.if-grant.false) ∙ heap_of c.count_step.ensures)

pub returns-clause-counted : goal.returns-clause-counted
returns-clause-counted g c =
    same_faults g.K.Sink.faults c.args.self.now.output c.grant-2.new.self.output _
    (output_of (c.grant-2.ensures.refused c.if-grant-2.false) ∙ c.take_all.ensures.output ∙ output_of (c.grant.ensures.refused c.if-grant.false) ∙ output_of c.count_step.ensures) (λ is. cc (is, c.full-2.ensures))

pub returns-clause-settings : goal.returns-clause-settings
returns-clause-settings g c =
    ap settings_in (heap_of (c.grant-2.ensures.refused c.if-grant-2.false)) ∙ c.take_all.ensures.settings ∙ ap settings_in (heap_of (c.grant.ensures.refused c.if-grant.false) ∙ heap_of c.count_step.ensures)
