use Rattle.std.proofs.Common.{refl}
use Rattle.std.specs.Int.{int_wrap}
use Rattle.cb_arith.proofs.worked.overflows.Goals as goal

pub returns : goal.returns
unfolding int_wrap
returns c = record {
  sum = refl;
  difference = refl;
  negation = refl;
  product = refl;
  long_product = refl;
}
