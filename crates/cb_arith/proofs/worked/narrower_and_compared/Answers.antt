use Rattle.std.proofs.Common.{refl}
use Rattle.std.specs.Int.{int_wrap}
use Rattle.cb_arith.proofs.worked.narrower_and_compared.Goals as goal

pub returns : goal.returns
unfolding int_wrap
returns c = record {
  byte = refl;
  char = refl;
  short = refl;
  less = refl;
  same = refl;
  greater = refl;
}
