use Rattle.std.proofs.Common.{◌≡◌, drop}
use Rattle.std.specs.List.{list_any}
use Rattle.cb_verify.specs.Frames.{is_same}
use Rattle.cb_verify.proofs.type_frame.TypeFrame.holds.Given as goal

abbrev pub invariant-loop-place : goal.invariant-loop-place
invariant-loop-place l = list_any (is_same l.value) (drop l.place l.self.stack) ≡ list_any (is_same l.value) l.self.stack
