use Rattle.cb_asm.proofs.Closed.{close_falls}
use Rattle.cb_asm.proofs.Records.{is_not}
use Rattle.cb_asm.proofs.closing.can_stand.Goals as goal

pub returns-clause-falls : goal.returns-clause-falls
returns-clause-falls c =
    close_falls c.args.front.now c.closes_open.result c.closes_open.ensures.falls (is_not c.in_ok-closes.field-0 _ c.in_ok-closes.ensures c.if-branch.false) (is_not c.in_ok-closes-2.field-0 _ c.in_ok-closes-2.ensures c.if-branch-2.false) (is_not c.in_ok-closes-3.field-0 _ c.in_ok-closes-3.ensures c.if-branch-3.false)
