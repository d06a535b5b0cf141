use Rattle.cb_arith.proofs.Fitting.{compare_fits, int_op_fits, long_op_fits, long_shift_fits, narrow_fits}
use Rattle.cb_arith.proofs.law.results_fit.Goals as goal

pub returns : goal.returns
returns c = record {
  ints = int_op_fits;
  longs = long_op_fits;
  shifts = long_shift_fits;
  comparisons = compare_fits;
  narrower = narrow_fits;
}
