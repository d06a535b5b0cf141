use Rattle.cb_arith.proofs.BitByBit.{bit_kept, bit_of_both, bit_of_either, bit_of_one, no_other_bits}
use Rattle.cb_arith.proofs.law.bits_as_said.Goals as goal

pub returns : goal.returns
returns c = record {
  both = bit_of_both;
  either = bit_of_either;
  one_alone = bit_of_one;
  kept = bit_kept;
  no_others = no_other_bits;
}
