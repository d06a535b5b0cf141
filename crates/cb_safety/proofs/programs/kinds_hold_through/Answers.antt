use Rattle.cb_safety.proofs.Ordered.{program_order}
use Rattle.cb_safety.proofs.Through.{holds_through}
use Rattle.cb_safety.proofs.programs.kinds_hold_through.Goals as goal

pub returns : goal.returns
returns c = λ program library more is front formed whole. holds_through program (program_order program library more is front formed whole)
