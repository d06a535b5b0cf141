use Rattle.std.proofs.Common.{◌≡◌, ◌+◌, map}
use Rattle.cb_verify.specs.Frames.{height}
use Rattle.cb_verify.specs.Types.{type_of}
use Rattle.cb_verify.proofs.MemberWords.{words_from}
use Rattle.cb_verify.proofs.calls.is_count.Given as goal

abbrev pub invariant-loop-place : goal.invariant-loop-place
invariant-loop-place l = l.fn.count + words_from l.fn.member.takes l.place ≡ l.left + height (map type_of l.fn.member.takes)
