use Rattle.std.proofs.Common.{◌≡◌, drop}
use Rattle.cb_verify.specs.InnerPrefixes.{begins_as}
use Rattle.cb_verify.specs.Types.{is_of}
use Rattle.cb_verify.proofs.operands.begins_with.Given as goal

abbrev pub invariant-loop-place : goal.invariant-loop-place
invariant-loop-place l = begins_as is_of (drop l.place l.fn.sorts) (drop l.place l.fn.frame.stack) ≡ begins_as is_of l.fn.sorts l.fn.frame.stack
