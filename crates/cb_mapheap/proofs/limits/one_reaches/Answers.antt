use Rattle.std.proofs.Common.{sym, le-leb}
use Rattle.cb_mapheap.proofs.Wants.{found_one, is_below, none_more}
use Rattle.cb_mapheap.proofs.limits.one_reaches.Goals as goal

pub returns-then-at-most : goal.returns-then-at-most
returns-then-at-most c = sym (found_one c.args.most c.args.request.now c.loop-i.i c.at.result c.at.ensures (le-leb c.args.most c.at.result.words c.if-at-most.true))

pub loop-i-preserved : goal.loop-i-preserved
loop-i-preserved c = none_more c.args.most c.args.request.now c.loop-i.i c.at.result c.at.ensures c.loop-i.invariant (is_below c.args.most c.at.result c.if-at-most.false)
