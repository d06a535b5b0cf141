use Rattle.std.proofs.Common.{◌≡◌, take}
use Rattle.cb_runner.proofs.shapes.copied_marks.Given as goal

abbrev pub invariant-loop-place : goal.invariant-loop-place
invariant-loop-place l = l.copy ≡ take l.place l.marks
