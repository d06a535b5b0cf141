use Rattle.std.proofs.Common.{◌≡◌, ◌≤◌, drop, length}
use Rattle.cb_verify.specs.Frames.{replaced}
use Rattle.cb_verify.proofs.type_frame.TypeFrame.stack_rebuilt.Given as goal

abbrev pub invariant-loop-place : goal.invariant-loop-place
invariant-loop-place l = (l.place ≤ length l.self.stack) × (l.stack ≡ replaced l.old l.new (drop l.place l.self.stack))

abbrev pub decreases-loop-place : goal.decreases-loop-place
decreases-loop-place l = l.place
