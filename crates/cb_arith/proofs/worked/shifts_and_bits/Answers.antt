use Rattle.std.proofs.Common.{refl}
use Rattle.std.specs.Int.{int_wrap}
use Rattle.cb_arith.proofs.worked.shifts_and_bits.Goals as goal

pub returns : goal.returns
unfolding int_wrap
returns c = record {
  left = refl;
  left_again = refl;
  left_back = refl;
  right = refl;
  right_unsigned = refl;
  right_not_at_all = refl;
  long_left = refl;
  long_right = refl;
  long_unsigned = refl;
  both = refl;
  either = refl;
  one_alone = refl;
}
