use Rattle.std.proofs.lemmas.Int.{SFits-int_wrap}
use Rattle.cb_arith.proofs.Congruence.{int_wrap_congruent, int_wrap_only, low_bits_congruent, low_bits_only}
use Rattle.cb_arith.proofs.Wrapping.{low_bits-lt}
use Rattle.cb_arith.proofs.law.wrapped_as_said.Goals as goal

pub returns : goal.returns
returns c = record {
  signed = λ w z r. ((λ e. rw e (SFits-int_wrap w z, int_wrap_congruent w z)), (λ h. int_wrap_only w z r h.0 h.1));
  unsigned = λ count z n. ((λ e. rw e (low_bits-lt count z, low_bits_congruent count z)), (λ h. low_bits_only count z n h.0 h.1));
}
