use Rattle.std.proofs.Common.{◌≡◌, ◌∙◌, List, map, subst, sym}
use Rattle.cb_heap.specs.Reading.{read_value}
use Rattle.cb_plain.specs.declared.want.Want.{Want}
use Rattle.cb_natives.specs.Making.{HasRoom, given_back}
use Rattle.cb_natives.specs.MakingArrays.{wanted_by}
use Rattle.cb_natives.proofs.CopyRuns.{asked_by, leaves_so, not_asked, performs_so, some_wanted}
use Rattle.cb_natives.proofs.arrays.run_array.Goals as goal

pub unreachable-requires : goal.unreachable-requires
unreachable-requires g c =
    let objects = (g.S.Store.storage c.args.store.now).kept in
    let index = (g.S.Store.storage c.args.store.now).index in
    not_asked c.args.program.now objects index c.args.native (map (read_value index) c.args.arguments.now) c.requires.1.0 c.in_default.field-0 c.in_default.ensures
    g.asked.0 g.asked.1 c.requires.1.1.1.1.1.0

pub make_copy-requires-clause-room : goal.make_copy-requires-clause-room
make_copy-requires-clause-room g c =
    let objects = (g.S.Store.storage c.args.store.now).kept in
    let index = (g.S.Store.storage c.args.store.now).index in
    let same : g.asked.1 ≡ wanted_by c.in-Ok.copying =
    asked_by c.args.program.now objects index c.args.native (map (read_value index) c.args.arguments.now) c.requires.1.0 c.in-Ok.copying c.in-Ok.ensures g.asked.0 g.asked.1 c.requires.1.1.1.1.1.0 in
    subst (λ (wants : List Want). HasRoom objects wants (g.S.Store.storage c.args.store.now).granted) same (c.requires.1.1.1.1.1.1.0 (λ none. some_wanted c.in-Ok.copying (sym same ∙ none)))

pub make_copy-requires-clause-follows : goal.make_copy-requires-clause-follows
make_copy-requires-clause-follows g c =
    let objects = (g.S.Store.storage c.args.store.now).kept in
    let index = (g.S.Store.storage c.args.store.now).index in
    leaves_so c.args.program.now objects index c.args.native (map (read_value index) c.args.arguments.now) c.requires.1.0 c.in-Ok.copying c.in-Ok.ensures g.asked.0
    (g.S.Store.storage c.args.store.now).settings.allows c.requires.1.1.1.1.1.1.1.1.1

pub returns-clause-made : goal.returns-clause-made
returns-clause-made g c = λ roots.
    let objects = (g.S.Store.storage c.args.store.now).kept in
    let index = (g.S.Store.storage c.args.store.now).index in
    performs_so c.args.program.now objects index c.args.native (map (read_value index) c.args.arguments.now) c.requires.1.0 c.in-Ok.copying c.in-Ok.ensures g.S.Store.rules (g.S.Store.storage c.args.store.now).facts
    (g.S.Store.storage c.make_copy.new.store).kept (g.S.Store.storage c.make_copy.new.store).facts (given_back (g.S.Store.storage c.make_copy.new.store).index c.make_copy.result) c.make_copy.ensures.kept c.make_copy.ensures.facts
    c.make_copy.ensures.given
    roots
