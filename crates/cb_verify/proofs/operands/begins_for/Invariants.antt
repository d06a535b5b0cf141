use Rattle.std.proofs.Common.{◌≡◌, drop}
use Rattle.cb_verify.specs.InnerPrefixes.{begins_as, is_wanted}
use Rattle.cb_verify.proofs.operands.begins_for.Given as goal

abbrev pub invariant-loop-place : goal.invariant-loop-place
invariant-loop-place l =
    begins_as (is_wanted l.fn.program) (drop l.place l.fn.member.takes) (drop l.place l.fn.frame.stack) ≡ begins_as (is_wanted l.fn.program) l.fn.member.takes l.fn.frame.stack
