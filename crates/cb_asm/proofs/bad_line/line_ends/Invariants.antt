use Rattle.std.proofs.Common.{length}
use Rattle.cb_asm.proofs.Fronts.{AreFound}
use Rattle.cb_asm.proofs.bad_line.line_ends.Given as goal

abbrev pub invariant-lines : goal.invariant-lines
invariant-lines l = AreFound l.initial.text l.rest l.ends.items

abbrev pub decreases-lines : goal.decreases-lines
decreases-lines l = length l.rest
