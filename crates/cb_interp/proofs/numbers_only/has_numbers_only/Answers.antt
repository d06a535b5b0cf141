use Rattle.std.proofs.Common.{arith}
use Rattle.cb_interp.proofs.TurnsNumbers.{numbers_end, numbers_on, numbers_whole}
use Rattle.cb_interp.proofs.numbers_only.has_numbers_only.Goals as goal

pub loop-slot-preserved : goal.loop-slot-preserved
loop-slot-preserved c =
    λ rest. c.loop-slot.invariant (numbers_on c.args.program.now c.args.class c.static_count-count.result c.loop-slot.slot c.loop-slot-test.true
    (c.is_own_text.ensures c.if-is_own_text.false) rest)

pub returns : goal.returns
returns c =
    λ is. numbers_whole c.args.program.now c.args.class c.static_count-count.result c.static_count-count.ensures
    (c.loop-slot.invariant (numbers_end c.args.program.now c.args.class c.static_count-count.result c.loop-slot.slot (omega arith)))
