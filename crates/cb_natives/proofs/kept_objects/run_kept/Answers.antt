use Rattle.cb_heap.specs.Storage.{view_in}
use Rattle.std.proofs.Common.{[], ◌∷◌, map, subst, sym, ℕ}
use Rattle.cb_heap.specs.Reading.{read_value, seen}
use Rattle.cb_plain.specs.declared.value.Value.TheVariants as values
use Rattle.cb_natives.specs.Making.{Performs}
use Rattle.cb_natives.proofs.KeptMade.{asks_or_throws, keeps_old, new_there, places, room_so}
use Rattle.cb_natives.proofs.kept_objects.run_kept.Goals as goal

pub unreachable-requires : goal.unreachable-requires
unreachable-requires g c =
    asks_or_throws c.args.program.now (view_in (g.S.Store.storage c.args.store.now) c.args.roots.now.roots) c.args.native
    (map (read_value (g.S.Store.storage c.args.store.now).index) c.args.arguments.now) c.in_default.field-0 g.wants c.in_default.ensures c.requires.1.1.1.1.1.1.1.0

pub returns-then-old-ne0-clause-made : goal.returns-then-old-ne0-clause-made
returns-then-old-ne0-clause-made g c =
    keeps_old c.args.program.now (g.S.Store.storage c.args.store.now).index (g.S.Store.storage c.args.store.now).kept c.args.roots.now.roots c.args.native
    (map (read_value (g.S.Store.storage c.args.store.now).index) c.args.arguments.now) c.in-Ok.entry c.in-Ok.ensures g.S.Store.rules (g.S.Store.storage c.args.store.now).facts c.found-old.result c.found-old.ensures
    c.if-old-ne0.true

pub place_entry-requires-clause-granted : goal.place_entry-requires-clause-granted
place_entry-requires-clause-granted g c =
    let objects = (g.S.Store.storage c.args.store.now).kept in
    let index = (g.S.Store.storage c.args.store.now).index in
    let arguments = map (read_value index) c.args.arguments.now in
    (room_so c.args.program.now index objects c.args.roots.now.roots c.args.native arguments c.in-Ok.entry c.in-Ok.ensures g.wants (g.S.Store.storage c.args.store.now).granted c.requires.1.1.1.1.1.1.1.0
    (new_there c.args.program.now index objects c.args.roots.now.roots c.args.native arguments c.in-Ok.entry c.in-Ok.ensures c.found-old.result c.found-old.ensures c.if-old-ne0.false)
    c.requires.1.1.1.1.1.1.1.1.0).0

pub place_entry-requires-clause-serials : goal.place_entry-requires-clause-serials
place_entry-requires-clause-serials g c =
    let objects = (g.S.Store.storage c.args.store.now).kept in
    let index = (g.S.Store.storage c.args.store.now).index in
    let arguments = map (read_value index) c.args.arguments.now in
    (room_so c.args.program.now index objects c.args.roots.now.roots c.args.native arguments c.in-Ok.entry c.in-Ok.ensures g.wants (g.S.Store.storage c.args.store.now).granted c.requires.1.1.1.1.1.1.1.0
    (new_there c.args.program.now index objects c.args.roots.now.roots c.args.native arguments c.in-Ok.entry c.in-Ok.ensures c.found-old.result c.found-old.ensures c.if-old-ne0.false)
    c.requires.1.1.1.1.1.1.1.1.0).1

pub returns-clause-made : goal.returns-clause-made
returns-clause-made g c =
    let objects = (g.S.Store.storage c.args.store.now).kept in
    let index = (g.S.Store.storage c.args.store.now).index in
    let view = seen index objects c.args.roots.now.roots in
    let after = view_in (g.S.Store.storage c.place_entry.new.store) c.place_entry.new.roots.roots in
    let arguments = map (read_value index) c.args.arguments.now in
    subst (λ (serial : ℕ). Performs g.S.Store.rules c.args.program.now c.args.native arguments view (g.S.Store.storage c.args.store.now).facts after (g.S.Store.storage c.place_entry.new.store).facts (values.Ref serial ∷ []))
    (sym c.place_entry.ensures.serial)
    (places c.args.program.now view c.args.native arguments c.in-Ok.entry c.in-Ok.ensures g.S.Store.rules (g.S.Store.storage c.args.store.now).facts (g.S.Store.storage c.place_entry.new.store).facts after
    (new_there c.args.program.now index objects c.args.roots.now.roots c.args.native arguments c.in-Ok.entry c.in-Ok.ensures c.found-old.result c.found-old.ensures c.if-old-ne0.false)
    c.place_entry.ensures.view c.place_entry.ensures.facts)
