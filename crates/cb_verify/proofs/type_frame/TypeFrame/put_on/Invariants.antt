use Rattle.std.proofs.Common.{◌≡◌, ◌≤◌, ◌++◌, drop, take}
use Rattle.cb_verify.proofs.type_frame.TypeFrame.put_on.Given as goal

abbrev pub invariant-loop-place : goal.invariant-loop-place
invariant-loop-place l =
    (l.place ≤ l.count)
    × (l.frame ≡ record { locals = l.fn.below.locals; stack = drop l.place (take l.count l.self.stack) ++ l.fn.below.stack; unfinished = l.fn.below.unfinished })

abbrev pub decreases-loop-place : goal.decreases-loop-place
decreases-loop-place l = l.place
