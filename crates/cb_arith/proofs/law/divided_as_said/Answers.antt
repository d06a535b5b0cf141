use Rattle.cb_arith.proofs.Rounding.{quotient_is, remainder_is, together}
use Rattle.cb_arith.proofs.law.divided_as_said.Goals as goal

pub returns : goal.returns
returns c = record {
  quotient = quotient_is;
  remainder = remainder_is;
  together = together;
}
