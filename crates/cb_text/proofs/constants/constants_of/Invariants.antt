use Rattle.std.proofs.Common.{◌-◌, ◌≤◌, length, vec_len}
use Rattle.cb_text.proofs.Pooling.{Stand}
use Rattle.cb_text.proofs.constants.constants_of.Given as goal

abbrev pub invariant-loop-alloc : goal.invariant-loop-alloc
invariant-loop-alloc l = Stand l.bytes l.constants.items l.rest × (length l.constants.items ≤ l.count)

abbrev pub decreases-loop-alloc : goal.decreases-loop-alloc
decreases-loop-alloc l = l.count - vec_len l.constants
