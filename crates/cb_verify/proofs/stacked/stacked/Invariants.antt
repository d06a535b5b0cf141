use Rattle.std.proofs.Common.{◌≡◌, [], take, Some}
use Rattle.cb_verify.specs.Expansion.{reversed}
use Rattle.cb_verify.specs.Frames.{with_stack}
use Rattle.cb_verify.proofs.stacked.stacked.Given as goal

abbrev pub invariant-loop-value : goal.invariant-loop-value
invariant-loop-value l = with_stack l.most l.fn.bare (reversed [] (take l.value-index l.types)) ≡ Some l.frame
