use Rattle.std.proofs.Common.{arith}
use Rattle.cb_classfile.proofs.Failing.{handed}
use Rattle.cb_classfile.proofs.Tabling.{from_next, reached_more, finished}
use Rattle.cb_classfile.proofs.table.entries.Goals as goal

pub returns-in_err-entry : goal.returns-in_err-entry
returns-in_err-entry g c =
    handed _ _ _ _ c.from_residual-in_err-entry.ensures (from_next _ _ _ _ _ _ c.loop.invariant c.loop-test.true c.in_err-entry.ensures)

pub loop-preserved : goal.loop-preserved
loop-preserved g c =
    rw c.in_ok-push.ensures.ok (reached_more _ _ _ _ _ _ _ _ c.loop.invariant c.loop-test.true c.in_ok-entry.ensures)

pub returns : goal.returns
returns g c = finished _ _ _ _ _ _ c.loop.invariant (omega arith) (omega arith)
