use Rattle.std.proofs.Common.{ap, Some, w64}
use Rattle.std.proofs.lemmas.Int.{wrapping_add_is, wrapping_mul_is, wrapping_sub_is}
use Rattle.cb_arith.proofs.Wrapping.{bits_and_is, bits_or_is, bits_xor_is, divided, not_zero, rest}
use Rattle.cb_arith.proofs.long.long_op.Goals as goal

pub returns-in-Add-clause-exact : goal.returns-in-Add-clause-exact
returns-in-Add-clause-exact c = rw c.in-Add.is (ap Some (wrapping_add_is w64 c.args.a c.args.b c.ranges.a c.ranges.b))

pub returns-in-Sub-clause-exact : goal.returns-in-Sub-clause-exact
returns-in-Sub-clause-exact c = rw c.in-Sub.is (ap Some (wrapping_sub_is w64 c.args.a c.args.b c.ranges.a c.ranges.b))

pub returns-in-Mul-clause-exact : goal.returns-in-Mul-clause-exact
returns-in-Mul-clause-exact c = rw c.in-Mul.is (ap Some (wrapping_mul_is w64 c.args.a c.args.b c.ranges.a c.ranges.b))

pub returns-in-Div-2-clause-exact : goal.returns-in-Div-2-clause-exact
returns-in-Div-2-clause-exact c = rw (c.in-Div-2.is, not_zero w64 c.args.b c.if-b-eq0.false) (ap Some (divided w64 c.args.a c.args.b c.wrapping_div.result c.ranges.a c.ranges.b c.wrapping_div.ensures))

pub returns-in-Rem-2-clause-exact : goal.returns-in-Rem-2-clause-exact
returns-in-Rem-2-clause-exact c = rw (c.in-Rem-2.is, not_zero w64 c.args.b c.if-b-eq0-2.false) (ap Some (rest w64 c.args.a c.args.b c.wrapping_rem.result c.ranges.a c.ranges.b c.wrapping_rem.ensures))

pub returns-in-And-clause-exact : goal.returns-in-And-clause-exact
returns-in-And-clause-exact c = rw c.in-And.is (ap Some (bits_and_is w64 c.args.a c.args.b c.ranges.a c.ranges.b))

pub returns-in-Or-clause-exact : goal.returns-in-Or-clause-exact
returns-in-Or-clause-exact c = rw c.in-Or.is (ap Some (bits_or_is w64 c.args.a c.args.b c.ranges.a c.ranges.b))

pub returns-in-Xor-clause-exact : goal.returns-in-Xor-clause-exact
returns-in-Xor-clause-exact c = rw c.in-Xor.is (ap Some (bits_xor_is w64 c.args.a c.args.b c.ranges.a c.ranges.b))
