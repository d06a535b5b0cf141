use Rattle.std.proofs.Common.{arith}
use Rattle.cb_natives.proofs.texts.range_from.Goals as goal

pub returns-in-Ok-clause-is : goal.returns-in-Ok-clause-is
returns-in-Ok-clause-is g c =
    let count = c.count.ensures.count in
    λ program. c.one_piece.ensures.is program (g.S.Store.storage c.args.store.now).kept (g.S.Store.storage c.args.store.now).index (record { holds = c.requires; within = omega (arith, count, c.if-from-to.true, c.if-to-count.true) })
