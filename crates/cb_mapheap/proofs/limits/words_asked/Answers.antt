use Rattle.std.proofs.Common.{arith}
use Rattle.cb_mapheap.proofs.Wants.{granted_more}
use Rattle.cb_mapheap.proofs.limits.words_asked.Goals as goal

pub loop-i-preserved : goal.loop-i-preserved
loop-i-preserved c = omega (arith, granted_more c.args.request.now c.loop-i.i c.at.result c.at.ensures, c.in_ok-sum.ensures, c.loop-i.invariant)
