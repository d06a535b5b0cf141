use Rattle.std.proofs.Common.{arith, length-append}
use Rattle.cb_classfile.proofs.Facts.{described_more}
use Rattle.cb_classfile.proofs.texts.facts_of.Goals as goal

pub loop-index-preserved : goal.loop-index-preserved
loop-index-preserved c =
    let (long, described) = c.loop-index.invariant in
    rw c.in_ok-push.ensures.items (simp length-append (omega (arith, long)), described_more _ _ _ _ long described c.facts_at.ensures)
