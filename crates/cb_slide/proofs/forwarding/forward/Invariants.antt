use Rattle.std.proofs.Common.{◌≡◌}
use Rattle.cb_slide.specs.Sliding.{ForwardedTo, Given}
use Rattle.cb_slide.proofs.forwarding.forward.Given as goal

abbrev pub invariant-loop-part : goal.invariant-loop-part
invariant-loop-part l = (given : Given) → ForwardedTo given l.fn.words 0 0 → l.set ≡ given.set → ForwardedTo given l.words l.part 0
