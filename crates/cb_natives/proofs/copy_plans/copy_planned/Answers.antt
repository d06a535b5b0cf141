use Rattle.cb_natives.proofs.CopiesClosed.{copied_closes, copied_counts}
use Rattle.cb_natives.proofs.copy_plans.copy_planned.Goals as goal

pub returns-in-Some-clause-count : goal.returns-in-Some-clause-count
returns-in-Some-clause-count g c =
    copied_counts (g.S.Store.storage c.args.store.now).kept (g.S.Store.storage c.args.store.now).index c.in-Some.ranges (g.S.Store.storage c.copy_range.new.store).kept c.copy_range.ensures.kept

pub returns-in-Some-clause-closed : goal.returns-in-Some-clause-closed
returns-in-Some-clause-closed g c =
    copied_closes (g.S.Store.storage c.args.store.now).kept (g.S.Store.storage c.args.store.now).index c.in-Some.ranges (g.S.Store.storage c.copy_range.new.store).kept c.copy_range.ensures.kept
