use Rattle.std.proofs.Common.{◌≡◌, ◌*◌, ◌≤◌, length}
use Rattle.cb_insn.specs.Faults.{numbers_at, keys_fall}
use Rattle.cb_insn.proofs.switch.keys_fall.Given as goal

abbrev pub invariant-loop-left : goal.invariant-loop-left
invariant-loop-left l = record { same : keys_fall (numbers_at 8 l.count l.pairs) ≡ keys_fall (numbers_at 8 l.left l.rest); there : 8 * l.left ≤ length l.rest }

abbrev pub decreases-loop-left : goal.decreases-loop-left
decreases-loop-left l = l.left
