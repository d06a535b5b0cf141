-- What crates above may cite. No other file of these proofs is for them.
pub use Rattle.cb_arith.proofs.BitByBit.{bit_kept, bit_of_both, bit_of_either, bit_of_one, no_other_bits}
pub use Rattle.cb_arith.proofs.Congruence.{int_wrap_congruent, int_wrap_only, low_bits_congruent, low_bits_only}
pub use Rattle.cb_arith.proofs.Fitting.{compare_fits, int_op_fits, long_op_fits, long_shift_fits, narrow_fits}
pub use Rattle.cb_arith.proofs.Rounding.{quotient_is, remainder_is, rounded_down, together}
pub use Rattle.cb_arith.proofs.Wrapping.{low_bits-lt}
