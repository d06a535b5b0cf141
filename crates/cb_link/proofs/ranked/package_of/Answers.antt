use Rattle.cb_link.proofs.Ranks.{read_other, read_slash}
use Rattle.cb_link.proofs.ranked.package_of.Goals as goal
use Rattle.cb_link.proofs.ranked.package_of.Goals.{then-unit-eq-SLASH, else-unit-eq-SLASH}

pub loop-index-preserved : goal.loop-index-preserved
loop-index-preserved c = elim c.if-unit-eq-SLASH.branch [ then-unit-eq-SLASH w ↦ read_slash c.args.name.now c.loop-index.index c.if-unit-eq-SLASH.end c.loop-index-test.true w.if-unit-eq-SLASH.true w.end-is | else-unit-eq-SLASH w ↦ read_other c.args.name.now c.loop-index.index c.if-unit-eq-SLASH.end c.loop-index.end c.loop-index-test.true w.if-unit-eq-SLASH.false w.end-is c.loop-index.invariant.0 c.loop-index.invariant.1 ]
