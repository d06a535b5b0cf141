use Rattle.cb_verify.proofs.Walks.{passed_failing}
use Rattle.cb_verify.proofs.pass.pass.Goals as goal

pub returns-clause-failing : goal.returns-clause-failing
returns-clause-failing c =
    passed_failing c.args.method.now c.in_ok-frames.frames c.in_ok-first.first c.begins.result c.failing_at-beginning.result c.in_ok-walk.walk.failing
    c.first_lost.result c.lesser-failing.result c.lesser.result c.in_ok-frames.ensures c.in_ok-first.ensures c.begins.ensures c.failing_at-beginning.ensures
    c.in_ok-walk.ensures.failing c.first_lost.ensures c.lesser-failing.ensures c.lesser.ensures
