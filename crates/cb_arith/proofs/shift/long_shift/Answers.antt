use Rattle.std.proofs.Common.{arith, w32, w64}
use Rattle.cb_arith.proofs.Wrapping.{shifted_left, shifted_right, shifted_unsigned}
use Rattle.cb_arith.proofs.shift.long_shift.Goals as goal

pub returns-in-Shl : goal.returns-in-Shl
returns-in-Shl c = rw c.in-Shl.is (record { exact = shifted_left w64 w32 6 c.args.a c.args.by c.cast_unsigned-distance.result c.ranges.a c.ranges.by (omega arith) c.cast_unsigned-distance.ensures (omega arith) c.wrapping_shl.result c.wrapping_shl.ensures })

pub returns-in-Shr : goal.returns-in-Shr
returns-in-Shr c = rw c.in-Shr.is (record { exact = shifted_right w64 w32 6 c.args.a c.args.by c.cast_unsigned-distance.result c.ranges.a c.ranges.by (omega arith) c.cast_unsigned-distance.ensures c.wrapping_shr.result c.wrapping_shr.ensures })

pub returns-in-Ushr : goal.returns-in-Ushr
returns-in-Ushr c = rw c.in-Ushr.is (record { exact = shifted_unsigned w64 w32 6 c.args.a c.args.by c.cast_unsigned-distance.result c.ranges.a c.ranges.by (omega arith) c.cast_unsigned-distance.ensures c.cast_signed.result c.cast_unsigned.result c.wrapping_shr-in-Ushr.result c.cast_unsigned.ensures c.wrapping_shr-in-Ushr.ensures c.cast_signed.ensures })
