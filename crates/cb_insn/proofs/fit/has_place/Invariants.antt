use Rattle.std.proofs.Common.{length}
use Rattle.cb_insn.proofs.Placing.{Search}
use Rattle.cb_insn.proofs.fit.has_place.Given as goal

abbrev pub invariant-loop-rest : goal.invariant-loop-rest
invariant-loop-rest l = Search l.code l.rest l.pc

abbrev pub decreases-loop-rest : goal.decreases-loop-rest
decreases-loop-rest l = length l.rest
