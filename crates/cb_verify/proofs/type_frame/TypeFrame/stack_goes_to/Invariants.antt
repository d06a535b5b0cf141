use Rattle.std.proofs.Common.{◌≡◌, ◌≤◌, drop, length}
use Rattle.cb_verify.specs.Frames.{stack_goes_to}
use Rattle.cb_verify.proofs.type_frame.TypeFrame.stack_goes_to.Given as goal

abbrev pub invariant-loop-place : goal.invariant-loop-place
invariant-loop-place l =
    (l.behind ≤ length l.other.stack) × (stack_goes_to l.program (drop l.place l.self.stack) (drop l.behind l.other.stack) ≡ stack_goes_to l.program l.self.stack l.other.stack)
