use Rattle.std.proofs.Common.{◌∙◌, IsErr, IsTrue, ap, inl, inr, refl, subst, sym}
use Rattle.std.specs.List.{AllByRecursion}
use Rattle.cb_plain.specs.declared.want.Want.{Want}
use Rattle.cb_partheap.specs.Heaps.{Heap, index_in, objects_in, settings_in}
use Rattle.cb_collector.proofs.Collections.{granted_now, heap_of, refused_now, still_by}
use Rattle.cb_collector.proofs.Rooms.{HasRoomIn, is_roomy}
use Rattle.cb_collector.proofs.collector.Collector.grant.Goals as goal
use Rattle.cb_collector.proofs.collector.Collector.grant.Goals.{in-Ok, in-Err}

pub grant-requires : goal.grant-requires
grant-requires g c = subst (λ (h : Heap). AllByRecursion (λ (want : Want). IsTrue ((settings_in h).knows want.site)) c.args.request.now) (sym (heap_of c.self.view_is)) c.requires

pub invariant_of-self : goal.invariant_of-self
invariant_of-self g c =
    still_by _ c.grant.new.self c.args.request.now c.self.inside.blocks c.self.inside.all
    (elim c.match-grant.branch [ in-Ok w ↦ inl w.in-Ok.ensures.granted | in-Err w ↦ inr w.in-Err.ensures.refused ]) (c.grant.ensures.unmarked c.self.invariant.unmarked) c.self.invariant

pub returns-clause-granted : goal.returns-clause-granted
returns-clause-granted g c =
    elim c.match-grant.branch [
      | in-Ok w ↦ λ is. granted_now c.grant.new.self c.args.request.now c.self.view_is w.in-Ok.ensures.granted
      | in-Err w ↦ λ is. absurd (cc (is, w.result-is))
    ]

pub returns-clause-refused : goal.returns-clause-refused
returns-clause-refused g c =
    elim c.match-grant.branch [
      | in-Ok w ↦ λ is. absurd (cc (is, w.result-is))
      | in-Err w ↦ λ is. refused_now c.grant.new.self c.self.view_is w.in-Err.ensures.refused
    ]

pub returns-clause-kept : goal.returns-clause-kept
returns-clause-kept g c = c.grant.ensures.kept ∙ ap objects_in (heap_of c.self.view_is)

pub returns-clause-places : goal.returns-clause-places
returns-clause-places g c = c.grant.ensures.places ∙ ap index_in (heap_of c.self.view_is)

pub returns-clause-room : goal.returns-clause-room
returns-clause-room g c =
    elim c.match-grant.branch [
      | in-Ok w ↦ λ is. subst (λ (h : Heap). HasRoomIn h c.args.request.now) (heap_of c.self.view_is) (is_roomy _ c.self.inside.heap.memory.blocks c.grant.result c.grant.ensures.room w.in-Ok.is)
      | in-Err w ↦ λ is. absurd (cc (is, w.result-is))
    ]

pub returns-clause-none : goal.returns-clause-none
returns-clause-none g c =
    elim c.match-grant.branch [
      | in-Ok w ↦ λ is. absurd (cc (is, w.result-is))
      | in-Err w ↦ λ is room. c.grant.ensures.room.0 (subst IsErr (sym w.in-Err.is) refl) (subst (λ (h : Heap). HasRoomIn h c.args.request.now) (sym (heap_of c.self.view_is)) room)
    ]

pub returns-clause-bounded : goal.returns-clause-bounded
returns-clause-bounded g c =
    elim c.match-grant.branch [
      | in-Ok w ↦ λ is. w.in-Ok.ensures.bounded
      | in-Err w ↦ λ is. absurd (cc (is, w.result-is))
    ]
