use Rattle.std.proofs.Common.{◌-◌, ◌≤◌, length}
use Rattle.cb_insn.proofs.Walking.{Marked}
use Rattle.cb_insn.proofs.starts.find_starts.Given as goal

abbrev pub invariant-loop-pc : goal.invariant-loop-pc
invariant-loop-pc l = record { marked : Marked l.bytes l.marks.items l.pc; few : l.count ≤ l.pc }

abbrev pub decreases-loop-pc : goal.decreases-loop-pc
decreases-loop-pc l = length l.bytes - l.pc
