-- Results fit.
use Rattle.std.proofs.Common.{ℤ, pos, negsuc, Bool, true, false, IfSome, arith, lt_of_lt_of_le, cond, Some, None}
use Rattle.std.specs.Prelude.{FitsSigned, int_lt}
use Rattle.std.specs.Int.{Width, w8, w16, w32, w64, int_wrap}
use Rattle.std.proofs.lemmas.Int.{SFits-int_wrap}
use Rattle.cb_arith.specs.declared.int.IntOp.{IntOp}
use Rattle.cb_arith.specs.declared.long.LongOp.{LongOp}
use Rattle.cb_arith.specs.declared.narrower.Narrow.{Narrow}
use Rattle.cb_arith.specs.declared.narrower.Narrow.TheVariants.{Byte, Char, Short}
use Rattle.cb_arith.specs.declared.shift.ShiftOp.{ShiftOp}
use Rattle.cb_arith.specs.Ints.{exact_int, int_op}
use Rattle.cb_arith.specs.Longs.{exact_long, long_op}
use Rattle.cb_arith.specs.Narrowing.{narrow}
use Rattle.cb_arith.specs.Order.{compare}
use Rattle.cb_arith.specs.Shifts.{exact_shift, long_shift}
use Rattle.cb_arith.proofs.Wrapping.{fits_wider, low_bits-lt}

in_wrapped : (w : Width) (t : Bool) (z : ℤ) → IfSome (cond t None (Some (int_wrap w z))) (FitsSigned w)
in_wrapped w true z = tt
in_wrapped w false z = SFits-int_wrap w z

pub int_op_fits : (op : IntOp) (a b : ℤ) → IfSome (int_op op a b) (FitsSigned w32)
int_op_fits op a b = in_wrapped w32 _ (exact_int op a b)

pub long_op_fits : (op : LongOp) (a b : ℤ) → IfSome (long_op op a b) (FitsSigned w64)
long_op_fits op a b = in_wrapped w64 _ (exact_long op a b)

pub long_shift_fits : (op : ShiftOp) (a by : ℤ) → FitsSigned w64 (long_shift op a by)
long_shift_fits op a by = SFits-int_wrap w64 (exact_shift op a by)

pub narrow_fits : (to : Narrow) (a : ℤ) → FitsSigned w32 (narrow to a)
narrow_fits Byte a = fits_wider w8 w32 _ (omega arith) (SFits-int_wrap w8 a)
narrow_fits Char a = record { sfits = lt_of_lt_of_le (low_bits-lt 16 a) (omega arith) }
narrow_fits Short a = fits_wider w16 w32 _ (omega arith) (SFits-int_wrap w16 a)

pub compare_fits : (a b : ℤ) → FitsSigned w32 (compare a b)
compare_fits a b = by (int_lt a b) (int_lt b a)
  where
    by : (s t : Bool) → FitsSigned w32 (cond s (negsuc 0) (cond t (pos 1) (pos 0)))
    by true t = record { sfits = omega arith }
    by false true = record { sfits = omega arith }
    by false false = record { sfits = omega arith }
