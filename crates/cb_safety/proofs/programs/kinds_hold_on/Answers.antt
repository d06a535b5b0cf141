use Rattle.cb_safety.proofs.Holding.{holds_goes}
use Rattle.cb_safety.proofs.Ordered.{program_order}
use Rattle.cb_safety.proofs.programs.kinds_hold_on.Goals as goal

pub returns : goal.returns
returns c = λ program library more is front formed whole. holds_goes program (program_order program library more is front formed whole)
