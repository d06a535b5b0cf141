use Rattle.std.proofs.Common.{length}
use Rattle.cb_heap.specs.Reading.{read_roots}
use Rattle.cb_link.specs.Having.{site_kinds}
use Rattle.cb_natives.proofs.MakingSites.{sites_below}
use Rattle.cb_natives.proofs.making.plan_native.Goals as goal

pub returns-then-makes_text-clause-planned : goal.returns-then-makes_text-clause-planned
returns-then-makes_text-clause-planned g c = c.plan_text.ensures.planned (read_roots (g.S.Store.storage c.args.store.now).index c.args.roots.now.roots)

pub returns-then-makes_text-clause-sites : goal.returns-then-makes_text-clause-sites
returns-then-makes_text-clause-sites g c =
    sites_below (length (site_kinds c.args.program.now)) c.plan_text.new.request c.plan_text.result c.requires.known c.plan_text.ensures.sites

pub returns-then-makes_own-clause-planned : goal.returns-then-makes_own-clause-planned
returns-then-makes_own-clause-planned g c = c.plan_own.ensures.planned (read_roots (g.S.Store.storage c.args.store.now).index c.args.roots.now.roots)

pub returns-then-makes_own-clause-sites : goal.returns-then-makes_own-clause-sites
returns-then-makes_own-clause-sites g c =
    sites_below (length (site_kinds c.args.program.now)) c.plan_own.new.request c.plan_own.result c.requires.known c.plan_own.ensures.sites

pub returns-then-makes_number-clause-planned : goal.returns-then-makes_number-clause-planned
returns-then-makes_number-clause-planned g c = c.plan_number.ensures.planned (read_roots (g.S.Store.storage c.args.store.now).index c.args.roots.now.roots)

pub returns-then-makes_number-clause-sites : goal.returns-then-makes_number-clause-sites
returns-then-makes_number-clause-sites g c =
    sites_below (length (site_kinds c.args.program.now)) c.plan_number.new.request c.plan_number.result c.requires.known c.plan_number.ensures.sites

pub returns-then-makes_array-clause-planned : goal.returns-then-makes_array-clause-planned
returns-then-makes_array-clause-planned g c = c.plan_array.ensures.planned (read_roots (g.S.Store.storage c.args.store.now).index c.args.roots.now.roots)

pub returns-else-makes_array-clause-sites : goal.returns-else-makes_array-clause-sites
returns-else-makes_array-clause-sites g c =
    sites_below (length (site_kinds c.args.program.now)) c.plan_kept.new.request c.plan_kept.result c.requires.known c.plan_kept.ensures.sites
