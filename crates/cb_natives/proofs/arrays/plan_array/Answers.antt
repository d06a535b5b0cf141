use Rattle.std.proofs.Common.{◌<◌, length, map, subst, sym}
use Rattle.std.specs.List.{AllByRecursion}
use Rattle.cb_heap.specs.Reading.{read_value}
use Rattle.cb_link.specs.Having.{site_kinds}
use Rattle.cb_plain.specs.declared.want.Want.{Want}
use Rattle.cb_natives.proofs.CopyRuns.{asks_so, sites_so, throws_so}
use Rattle.cb_natives.proofs.arrays.plan_array.Goals as goal

pub returns-in-Ok-clause-planned : goal.returns-in-Ok-clause-planned
returns-in-Ok-clause-planned g c = λ roots.
    let objects = (g.S.Store.storage c.args.store.now).kept in
    let index = (g.S.Store.storage c.args.store.now).index in
    asks_so c.args.program.now objects index c.args.native (map (read_value index) c.args.arguments.now) c.requires.makes c.in-Ok.copying c.in-Ok.ensures roots c.ask.new.request c.ask.ensures

pub returns-in-Ok-clause-sites : goal.returns-in-Ok-clause-sites
returns-in-Ok-clause-sites g c =
    subst (AllByRecursion (λ (want : Want). want.site < length (site_kinds c.args.program.now))) (sym c.ask.ensures)
    (sites_so c.args.program.now (g.S.Store.storage c.args.store.now).kept (g.S.Store.storage c.args.store.now).index c.in-Ok.copying c.requires.known c.in-Ok.ensures.may)

pub returns-in-Err-clause-planned : goal.returns-in-Err-clause-planned
returns-in-Err-clause-planned g c = λ roots.
    let objects = (g.S.Store.storage c.args.store.now).kept in
    let index = (g.S.Store.storage c.args.store.now).index in
    throws_so c.args.program.now objects index c.args.native (map (read_value index) c.args.arguments.now) c.requires.makes c.in-Err.exception c.in-Err.ensures roots
