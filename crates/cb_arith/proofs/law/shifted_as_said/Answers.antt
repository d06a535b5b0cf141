use Rattle.cb_arith.proofs.Rounding.{rounded_down}
use Rattle.cb_arith.proofs.law.shifted_as_said.Goals as goal

pub returns : goal.returns
returns c = rounded_down
