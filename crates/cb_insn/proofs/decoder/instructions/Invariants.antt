use Rattle.std.proofs.Common.{length, ◌-◌}
use Rattle.cb_insn.proofs.Building.{Built}
use Rattle.cb_insn.proofs.decoder.instructions.Given as goal

abbrev pub invariant-loop-pc : goal.invariant-loop-pc
invariant-loop-pc l = Built l.bytes l.starts l.pc l.code

abbrev pub decreases-loop-pc : goal.decreases-loop-pc
decreases-loop-pc l = length l.bytes - l.pc
