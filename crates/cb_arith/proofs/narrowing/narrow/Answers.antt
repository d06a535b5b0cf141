use Rattle.std.proofs.Common.{arith, w8, w16}
use Rattle.cb_arith.proofs.Wrapping.{narrowed, unsigned_narrowed}
use Rattle.cb_arith.proofs.narrowing.narrow.Goals as goal

pub returns-in-Byte : goal.returns-in-Byte
returns-in-Byte c = rw c.in-Byte.is (record { exact = narrowed w8 c.args.a c.from.result c.cast_signed.result c.cast_unsigned-bits.result (omega arith) (omega arith) c.ranges.a c.cast_unsigned-bits.ensures c.cast_signed.ensures c.from.ensures })

pub returns-in-Char : goal.returns-in-Char
returns-in-Char c = rw c.in-Char.is (record { exact = unsigned_narrowed c.args.a c.from-in-Char.result c.cast_unsigned-bits.result c.ranges.a c.cast_unsigned-bits.ensures c.from-in-Char.ensures })

pub returns-in-Short : goal.returns-in-Short
returns-in-Short c = rw c.in-Short.is (record { exact = narrowed w16 c.args.a c.from-in-Short.result c.cast_signed-in-Short.result c.cast_unsigned-bits.result (omega arith) (omega arith) c.ranges.a c.cast_unsigned-bits.ensures c.cast_signed-in-Short.ensures c.from-in-Short.ensures })
