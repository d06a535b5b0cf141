use Rattle.std.proofs.Common.{◌≡◌, drop}
use Rattle.cb_verify.specs.Frames.{height}
use Rattle.cb_verify.proofs.type_frame.TypeFrame.height_below.Given as goal

abbrev pub invariant-loop-place : goal.invariant-loop-place
invariant-loop-place l = l.words ≡ height (drop l.place l.self.stack)
