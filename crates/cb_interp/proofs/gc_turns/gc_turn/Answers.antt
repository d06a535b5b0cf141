use Rattle.cb_heap.specs.Storage.{view_in}
use Rattle.std.proofs.Common.{ap}
use Rattle.cb_act.specs.Turning.{machine_of, moment_in}
use Rattle.cb_frames.specs.Limited.{Limited}
use Rattle.cb_safety.proofs.Laws.{typed_states_are_closed}
use Rattle.cb_interp.proofs.RunTyped.{turn_typed}
use Rattle.cb_interp.proofs.TurnsNativeGc.{gc_goes, gc_made, gc_unreported, gc_whole}
use Rattle.cb_interp.proofs.gc_turns.gc_turn.Goals as goal

pub unreachable-requires : goal.unreachable-requires
unreachable-requires g c =
    gc_goes c.args.program.now (g.S.Store.storage c.args.store.now).index (g.S.Store.storage c.args.store.now).kept c.args.roots.now.limit c.args.roots.now.roots g.outside c.args.decoded.now c.requires.1.1.1.method
    c.requires.1.1.0 c.requires.1.1.1.asked c.requires.1.1.1.is c.requires.1.0.linked c.requires.1.0.fits c.requires.1.0.typed
    (c.linked_has_natives.ensures c.args.program.now c.requires.1.0.linked c.requires.1.0.fits) c.in_default.is

pub collect_all-requires : goal.collect_all-requires
collect_all-requires g c =
    let machine = machine_of c.args.program.now c.args.roots.now.limit in
    let before = moment_in (g.S.Store.storage c.args.store.now) c.args.roots.now.roots g.outside in
    let middle = moment_in (g.S.Store.storage c.args.store.now) c.set_place.new.self.roots g.outside in
    let made = gc_made c.args.program.now (g.S.Store.storage c.args.store.now).index (g.S.Store.storage c.args.store.now).kept c.args.roots.now.limit c.args.roots.now.roots g.outside c.args.decoded.now c.requires.1.1.1.method
    c.requires.1.1.0 c.requires.1.1.1.asked c.requires.1.1.1.is c.requires.1.0.linked c.requires.1.0.fits c.requires.1.0.typed
    (c.linked_has_natives.ensures c.args.program.now c.requires.1.0.linked c.requires.1.0.fits) g.S.Store.rules (g.S.Store.storage c.args.store.now).facts c.set_place.new.self.roots c.in-Some.next c.in-Some.is
    (ap (λ (held : Limited). held.roots) c.set_place.ensures) in
    record { closed = typed_states_are_closed c.args.program.now middle.state (turn_typed machine c.requires.1.0.linked c.requires.1.0.fits g.S.Store.rules before middle made c.requires.1.0.typed) }

pub returns-clause-made : goal.returns-clause-made
returns-clause-made g c =
    gc_whole c.args.program.now (g.S.Store.storage c.args.store.now).index (g.S.Store.storage c.args.store.now).kept c.args.roots.now.limit c.args.roots.now.roots g.outside c.args.decoded.now c.requires.1.1.1.method
    c.requires.1.1.0 c.requires.1.1.1.asked c.requires.1.1.1.is c.requires.1.0.linked c.requires.1.0.fits c.requires.1.0.typed
    (c.linked_has_natives.ensures c.args.program.now c.requires.1.0.linked c.requires.1.0.fits) g.S.Store.rules (g.S.Store.storage c.args.store.now).facts (g.S.Store.storage c.collect_all.new.self).facts
    c.set_place.new.self.roots c.in-Some.next c.in-Some.is (ap (λ (held : Limited). held.roots) c.set_place.ensures)
    (view_in (g.S.Store.storage c.collect_all.new.self) c.collect_all.new.roots.roots) c.collect_all.ensures.collected c.collect_all.result c.collect_all.ensures.ruled

pub returns-clause-unreported : goal.returns-clause-unreported
returns-clause-unreported g c =
    gc_unreported c.args.program.now (g.S.Store.storage c.args.store.now).index (g.S.Store.storage c.args.store.now).kept c.args.roots.now.limit c.args.roots.now.roots g.outside c.args.decoded.now c.requires.1.1.1.method
    c.requires.1.1.0 c.requires.1.1.1.asked c.requires.1.1.1.is c.requires.1.0.linked c.requires.1.0.fits c.requires.1.0.typed
    (c.linked_has_natives.ensures c.args.program.now c.requires.1.0.linked c.requires.1.0.fits) g.S.Store.rules (g.S.Store.storage c.args.store.now).facts (g.S.Store.storage c.collect_all.new.self).facts
    c.set_place.new.self.roots c.in-Some.next c.in-Some.is (ap (λ (held : Limited). held.roots) c.set_place.ensures)
    (view_in (g.S.Store.storage c.collect_all.new.self) c.collect_all.new.roots.roots) c.collect_all.ensures.collected c.collect_all.result c.collect_all.ensures.ruled c.collect_all.ensures.refused
