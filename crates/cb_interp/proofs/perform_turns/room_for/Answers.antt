use Rattle.cb_heap.specs.Storage.{view_in}
use Rattle.std.proofs.Common.{◌∙◌, ap, subst, sym, length, List}
use Rattle.std.proofs.lemmas.Bool.{false≢true}
use Rattle.cb_act.specs.Turning.{NotAsked, RoomMade, moment_of, state_of}
use Rattle.cb_plain.specs.declared.want.Want.{Want}
use Rattle.cb_interp.proofs.TurnsNeedSerials.{few_on}
use Rattle.cb_interp.proofs.NativesMade.{collects_nothing, has_room, room_made, room_refused}
use Rattle.cb_interp.proofs.perform_turns.room_for.Goals as goal

pub returns-then-is_empty-clause-made : goal.returns-then-is_empty-clause-made
returns-then-is_empty-clause-made g c =
    let before = moment_of (view_in (g.S.Store.storage c.args.store.now) c.args.roots.now.roots) g.outside (g.S.Store.storage c.args.store.now).facts in
    subst (λ (wants : List Want). RoomMade g.S.Store.rules before wants before) (sym (c.is_empty.ensures.0 c.if-is_empty.true)) NotAsked

pub returns-then-is_empty-clause-collected : goal.returns-then-is_empty-clause-collected
returns-then-is_empty-clause-collected g c =
    collects_nothing (view_in (g.S.Store.storage c.args.store.now) c.args.roots.now.roots) c.requires.1.0

pub returns-clause-made : goal.returns-clause-made
returns-clause-made g c =
    room_made g.S.Store.rules
    (moment_of (view_in (g.S.Store.storage c.args.store.now) c.args.roots.now.roots) g.outside (g.S.Store.storage c.args.store.now).facts)
    (moment_of (view_in (g.S.Store.storage c.make_room.new.self) c.make_room.new.roots.roots) g.outside (g.S.Store.storage c.make_room.new.self).facts)
    c.make_room.ensures.collected
    (ap (λ roots. state_of (record { roots = roots; objects = (g.S.Store.storage c.make_room.new.self).kept }) g.outside) c.make_room.ensures.collected.roots)
    c.args.request.now c.make_room.result (λ is. absurd (false≢true (sym c.if-is_empty.false ∙ c.is_empty.ensures.1 is))) c.make_room.ensures.ruled

pub returns-clause-refused : goal.returns-clause-refused
returns-clause-refused g c =
    room_refused g.S.Store.rules
    (moment_of (view_in (g.S.Store.storage c.args.store.now) c.args.roots.now.roots) g.outside (g.S.Store.storage c.args.store.now).facts)
    (moment_of (view_in (g.S.Store.storage c.make_room.new.self) c.make_room.new.roots.roots) g.outside (g.S.Store.storage c.make_room.new.self).facts)
    c.make_room.ensures.collected
    (ap (λ roots. state_of (record { roots = roots; objects = (g.S.Store.storage c.make_room.new.self).kept }) g.outside) c.make_room.ensures.collected.roots)
    c.args.request.now c.make_room.result (λ is. absurd (false≢true (sym c.if-is_empty.false ∙ c.is_empty.ensures.1 is))) c.make_room.ensures.ruled

pub returns-clause-room : goal.returns-clause-room
returns-clause-room g c =
    has_room (g.S.Store.storage c.make_room.new.self).kept c.args.request.now (g.S.Store.storage c.make_room.new.self).granted g.S.Store.rules.fixed c.make_room.result
    (few_on g.S.Store.rules.fixed (length (g.S.Store.storage c.args.store.now).kept) (length (g.S.Store.storage c.make_room.new.self).kept) c.make_room.ensures.collected.count c.requires.1.1.1.0) c.requires.1.1.1.1
    c.make_room.ensures.granted c.make_room.ensures.bounded
