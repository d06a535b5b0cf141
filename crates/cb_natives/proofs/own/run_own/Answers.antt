use Rattle.std.proofs.Common.{◌≡◌, ◌∙◌, ap, List, map, subst, sym}
use Rattle.cb_heap.specs.Reading.{read_value, serial_of}
use Rattle.cb_plain.specs.declared.want.Want.{Want}
use Rattle.cb_natives.specs.Making.{HasRoom, given_back}
use Rattle.cb_natives.specs.MakingOwn.{itself, wanted_by}
use Rattle.cb_natives.proofs.OwnRuns.{asked_by, change_held, given_so, leaves_so, not_asked, performs_so}
use Rattle.cb_natives.proofs.own.run_own.Goals as goal

pub unreachable-requires : goal.unreachable-requires
unreachable-requires g c =
    let objects = (g.S.Store.storage c.args.store.now).kept in
    let index = (g.S.Store.storage c.args.store.now).index in
    not_asked c.args.program.now objects index c.args.native (map (read_value index) c.args.arguments.now) c.requires.1.0 c.in_default.field-0 c.in_default.ensures
    g.asked.0 g.asked.1 c.requires.1.1.1.1.0

pub make_change-requires-clause-room : goal.make_change-requires-clause-room
make_change-requires-clause-room g c = λ some.
    let objects = (g.S.Store.storage c.args.store.now).kept in
    let index = (g.S.Store.storage c.args.store.now).index in
    let same : g.asked.1 ≡ wanted_by c.in-Ok.own.change =
    asked_by c.args.program.now objects index c.args.native (map (read_value index) c.args.arguments.now) c.requires.1.0 c.in-Ok.own c.in-Ok.ensures g.asked.0 g.asked.1 c.requires.1.1.1.1.0 in
    subst (λ (wants : List Want). HasRoom objects wants (g.S.Store.storage c.args.store.now).granted) same (c.requires.1.1.1.1.1.0 (λ none. some (sym same ∙ none)))

pub make_change-requires-clause-follows : goal.make_change-requires-clause-follows
make_change-requires-clause-follows g c =
    let objects = (g.S.Store.storage c.args.store.now).kept in
    let index = (g.S.Store.storage c.args.store.now).index in
    leaves_so c.args.program.now objects index c.args.native (map (read_value index) c.args.arguments.now) c.requires.1.0 c.in-Ok.own c.in-Ok.ensures g.asked.0
    (g.S.Store.storage c.args.store.now).settings.allows c.requires.1.1.1.1.1.1.1

pub returns-clause-made : goal.returns-clause-made
returns-clause-made g c = λ roots.
    let program = c.args.program.now in
    let objects = (g.S.Store.storage c.args.store.now).kept in
    let index = (g.S.Store.storage c.args.store.now).index in
    let own = c.in-Ok.own in
    let after = (g.S.Store.storage c.make_change.new.store).index in
    performs_so program objects index c.args.native (map (read_value index) c.args.arguments.now) c.requires.1.0 own c.in-Ok.ensures g.S.Store.rules (g.S.Store.storage c.args.store.now).facts
    (g.S.Store.storage c.make_change.new.store).kept (g.S.Store.storage c.make_change.new.store).facts (given_back after c.itself.result) c.make_change.ensures.kept c.make_change.ensures.facts
    (ap (given_back after) c.itself.ensures ∙ given_so after own.gives own.at
    ∙ ap (itself own.gives) (c.make_change.ensures.places own.at (change_held program objects index (serial_of index own.at) own.change c.in-Ok.ensures.may)))
    roots
