use Rattle.std.proofs.Common.{sym, ◌∙◌}
use Rattle.cb_runner.proofs.Endings.{quiet_count, tells_no_fault}
use Rattle.cb_runner.proofs.stop.Stop.tell.Goals as goal

pub returns-in-Ok-clause-fault : goal.returns-in-Ok-clause-fault
returns-in-Ok-clause-fault g c =
    quiet_count _ _ (λ failed. cc) (λ is. tells_no_fault c.args.store.now c.args.self.now c.requires.whole (sym c.cause.ensures ∙ is)) c.in-Ok.ensures.cause
