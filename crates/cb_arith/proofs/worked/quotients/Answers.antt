use Rattle.std.proofs.Common.{refl}
use Rattle.std.specs.Int.{int_wrap}
use Rattle.cb_arith.proofs.worked.quotients.Goals as goal

pub returns : goal.returns
unfolding int_wrap
returns c = record {
  negative = refl;
  remainder = refl;
  by_negative = refl;
  remainder_by_negative = refl;
  least = refl;
  least_remainder = refl;
  by_zero = refl;
  remainder_by_zero = refl;
}
