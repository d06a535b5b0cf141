use Rattle.std.proofs.Common.{ap, arith, Some, w32}
use Rattle.std.proofs.lemmas.Int.{wrapping_add_is, wrapping_mul_is, wrapping_sub_is}
use Rattle.cb_arith.proofs.Wrapping.{bits_and_is, bits_or_is, bits_xor_is, divided, not_zero, rest, shifted_left, shifted_right, shifted_unsigned}
use Rattle.cb_arith.proofs.int.int_op.Goals as goal

pub returns-in-Add-clause-exact : goal.returns-in-Add-clause-exact
returns-in-Add-clause-exact c = rw c.in-Add.is (ap Some (wrapping_add_is w32 c.args.a c.args.b c.ranges.a c.ranges.b))

pub returns-in-Sub-clause-exact : goal.returns-in-Sub-clause-exact
returns-in-Sub-clause-exact c = rw c.in-Sub.is (ap Some (wrapping_sub_is w32 c.args.a c.args.b c.ranges.a c.ranges.b))

pub returns-in-Mul-clause-exact : goal.returns-in-Mul-clause-exact
returns-in-Mul-clause-exact c = rw c.in-Mul.is (ap Some (wrapping_mul_is w32 c.args.a c.args.b c.ranges.a c.ranges.b))

pub returns-in-Div-2-clause-exact : goal.returns-in-Div-2-clause-exact
returns-in-Div-2-clause-exact c = rw (c.in-Div-2.is, not_zero w32 c.args.b c.if-b-eq0.false) (ap Some (divided w32 c.args.a c.args.b c.wrapping_div.result c.ranges.a c.ranges.b c.wrapping_div.ensures))

pub returns-in-Rem-2-clause-exact : goal.returns-in-Rem-2-clause-exact
returns-in-Rem-2-clause-exact c = rw (c.in-Rem-2.is, not_zero w32 c.args.b c.if-b-eq0-2.false) (ap Some (rest w32 c.args.a c.args.b c.wrapping_rem.result c.ranges.a c.ranges.b c.wrapping_rem.ensures))

pub returns-in-Shl-clause-exact : goal.returns-in-Shl-clause-exact
returns-in-Shl-clause-exact c = rw c.in-Shl.is (ap Some (shifted_left w32 w32 5 c.args.a c.args.b c.cast_unsigned.result c.ranges.a c.ranges.b (omega arith) c.cast_unsigned.ensures (omega arith) c.wrapping_shl.result c.wrapping_shl.ensures))

pub returns-in-Shr-clause-exact : goal.returns-in-Shr-clause-exact
returns-in-Shr-clause-exact c = rw c.in-Shr.is (ap Some (shifted_right w32 w32 5 c.args.a c.args.b c.cast_unsigned-in-Shr.result c.ranges.a c.ranges.b (omega arith) c.cast_unsigned-in-Shr.ensures c.wrapping_shr.result c.wrapping_shr.ensures))

pub returns-in-Ushr-clause-exact : goal.returns-in-Ushr-clause-exact
returns-in-Ushr-clause-exact c = rw c.in-Ushr.is (ap Some (shifted_unsigned w32 w32 5 c.args.a c.args.b c.cast_unsigned-in-Ushr-2.result c.ranges.a c.ranges.b (omega arith) c.cast_unsigned-in-Ushr-2.ensures c.cast_signed.result c.cast_unsigned-in-Ushr.result c.wrapping_shr-bits.result c.cast_unsigned-in-Ushr.ensures c.wrapping_shr-bits.ensures c.cast_signed.ensures))

pub returns-in-And-clause-exact : goal.returns-in-And-clause-exact
returns-in-And-clause-exact c = rw c.in-And.is (ap Some (bits_and_is w32 c.args.a c.args.b c.ranges.a c.ranges.b))

pub returns-in-Or-clause-exact : goal.returns-in-Or-clause-exact
returns-in-Or-clause-exact c = rw c.in-Or.is (ap Some (bits_or_is w32 c.args.a c.args.b c.ranges.a c.ranges.b))

pub returns-in-Xor-clause-exact : goal.returns-in-Xor-clause-exact
returns-in-Xor-clause-exact c = rw c.in-Xor.is (ap Some (bits_xor_is w32 c.args.a c.args.b c.ranges.a c.ranges.b))
