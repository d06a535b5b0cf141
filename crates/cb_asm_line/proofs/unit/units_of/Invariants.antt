use Rattle.std.proofs.Common.{length}
use Rattle.cb_asm_line.proofs.Units.{IsRead}
use Rattle.cb_asm_line.proofs.unit.units_of.Given as goal

abbrev pub invariant-loop-unit : goal.invariant-loop-unit
invariant-loop-unit l = IsRead l.fn.in_text l.fn.word l.rest l.units

abbrev pub decreases-loop-unit : goal.decreases-loop-unit
decreases-loop-unit l = length l.rest
