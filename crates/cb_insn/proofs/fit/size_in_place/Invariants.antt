use Rattle.std.proofs.Common.{length}
use Rattle.cb_insn.proofs.Placing.{Walked}
use Rattle.cb_insn.proofs.fit.size_in_place.Given as goal

abbrev pub invariant-loop-at : goal.invariant-loop-at
invariant-loop-at l = Walked l.code l.pc l.rest

abbrev pub decreases-loop-at : goal.decreases-loop-at
decreases-loop-at l = length l.rest
