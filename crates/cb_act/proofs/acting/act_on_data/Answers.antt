use Rattle.std.proofs.Common.{◌∙◌, ap, subst, sym, ◌<◌}
use Rattle.cb_heap.specs.Storage.{view_in}
use Rattle.cb_act.specs.Acting.{acted_as, stored}
use Rattle.cb_machine.specs.Growing.{lays_one}
use Rattle.cb_act.proofs.FramesActed.{room_read}
use Rattle.cb_act.proofs.acting.act_on_data.Goals as goal

pub stores_reference-requires-clause-follows : goal.stores_reference-requires-clause-follows
stores_reference-requires-clause-follows g c = λ after does.
    c.requires.follows.each after
    (ap (acted_as c.args.program.now c.args.roots.now.limit c.args.decoded.now (view_in (g.S.Store.storage c.args.store.now) c.args.roots.now.roots)) c.in-StoreReference.is ∙ does)

pub stores-requires-clause-follows : goal.stores-requires-clause-follows
stores-requires-clause-follows g c = λ after does.
    c.requires.follows.each after
    (ap (acted_as c.args.program.now c.args.roots.now.limit c.args.decoded.now (view_in (g.S.Store.storage c.args.store.now) c.args.roots.now.roots)) c.in-StoreNumber.is
    ∙ ap (stored c.args.program.now c.args.decoded.now (view_in (g.S.Store.storage c.args.store.now) c.args.roots.now.roots)) (sym c.sort-in-StoreNumber.ensures) ∙ does)

pub puts_field-requires-clause-follows : goal.puts_field-requires-clause-follows
puts_field-requires-clause-follows g c = λ after does.
    c.requires.follows.each after
    (ap (acted_as c.args.program.now c.args.roots.now.limit c.args.decoded.now (view_in (g.S.Store.storage c.args.store.now) c.args.roots.now.roots)) c.in-PutField.is ∙ does)

pub gets_static-requires-clause-room : goal.gets_static-requires-clause-room
gets_static-requires-clause-room g c =
    subst (λ room. 0 < room) (room_read (g.S.Store.storage c.args.store.now).index c.args.roots.now.roots)
    (c.requires.suited.room.lays c.args.action.now c.requires.is (ap lays_one c.in-GetStatic.is))

pub loads_constant-requires-clause-room : goal.loads_constant-requires-clause-room
loads_constant-requires-clause-room g c =
    subst (λ room. 0 < room) (room_read (g.S.Store.storage c.args.store.now).index c.args.roots.now.roots)
    (c.requires.suited.room.lays c.args.action.now c.requires.is (ap lays_one c.in-Constant.is))

pub gets_field-requires-clause-told : goal.gets_field-requires-clause-told
gets_field-requires-clause-told g c = c.requires.suited.words.told

pub puts_field-requires-clause-told : goal.puts_field-requires-clause-told
puts_field-requires-clause-told g c = c.requires.suited.words.told

pub puts_static-requires-clause-told : goal.puts_static-requires-clause-told
puts_static-requires-clause-told g c = c.requires.suited.words.told
