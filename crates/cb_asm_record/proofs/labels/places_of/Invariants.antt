use Rattle.std.proofs.Common.{take}
use Rattle.cb_asm_record.specs.Inner.{AreWalked}
use Rattle.cb_asm_record.proofs.labels.places_of.Given as goal

abbrev pub invariant-loop-line : goal.invariant-loop-line
invariant-loop-line l = AreWalked (take l.line-index l.lines) l.places l.pc
