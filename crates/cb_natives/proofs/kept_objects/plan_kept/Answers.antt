use Rattle.cb_heap.specs.Storage.{view_in}
use Rattle.std.proofs.Common.{◌∙◌, List, ap, map, subst, sym}
use Rattle.cb_heap.specs.Reading.{read_value, seen}
use Rattle.cb_plain.specs.Requests.{add_want}
use Rattle.cb_plain.specs.declared.want.Want.{Want}
use Rattle.cb_natives.specs.Making.{Asks}
use Rattle.cb_natives.proofs.KeptMade.{asks_new, new_there, plans_none, throws_so}
use Rattle.cb_natives.proofs.kept_objects.plan_kept.Goals as goal

pub returns-then-found-eq0-clause-planned : goal.returns-then-found-eq0-clause-planned
returns-then-found-eq0-clause-planned g c =
    let objects = (g.S.Store.storage c.args.store.now).kept in
    let index = (g.S.Store.storage c.args.store.now).index in
    let view = seen index objects c.args.roots.now.roots in
    let arguments = map (read_value index) c.args.arguments.now in
    subst (λ (wants : List Want). Asks c.args.program.now view c.args.native arguments wants)
    (sym (c.add.ensures ∙ ap (λ (wants : List Want). add_want wants (record { site = c.in-Ok.entry.site; words = 4 })) c.clear.ensures))
    (asks_new c.args.program.now view c.args.native arguments c.in-Ok.entry c.in-Ok.ensures
    (new_there c.args.program.now index objects c.args.roots.now.roots c.args.native arguments c.in-Ok.entry c.in-Ok.ensures c.found.result c.found.ensures c.if-found-eq0.true))

pub returns-else-found-eq0-clause-planned : goal.returns-else-found-eq0-clause-planned
returns-else-found-eq0-clause-planned g c =
    let objects = (g.S.Store.storage c.args.store.now).kept in
    let index = (g.S.Store.storage c.args.store.now).index in
    let view = seen index objects c.args.roots.now.roots in
    let arguments = map (read_value index) c.args.arguments.now in
    subst (λ (wants : List Want). Asks c.args.program.now view c.args.native arguments wants) (sym c.clear.ensures)
    (plans_none c.args.program.now index objects c.args.roots.now.roots c.args.native arguments c.in-Ok.entry c.in-Ok.ensures c.found.result c.found.ensures c.if-found-eq0.false)

pub returns-in-Err-clause-planned : goal.returns-in-Err-clause-planned
returns-in-Err-clause-planned g c =
    throws_so c.args.program.now (view_in (g.S.Store.storage c.args.store.now) c.args.roots.now.roots) c.args.native
    (map (read_value (g.S.Store.storage c.args.store.now).index) c.args.arguments.now) c.in-Err.exception c.in-Err.ensures
