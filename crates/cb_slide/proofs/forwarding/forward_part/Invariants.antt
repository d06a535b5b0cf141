use Rattle.std.proofs.Common.{◌-◌}
use Rattle.cb_slide.specs.Sliding.{EndsAt, ForwardedScan, ForwardedTo, Given, IsIn}
use Rattle.cb_slide.proofs.forwarding.forward_part.Given as goal

abbrev pub invariant-loop-scan : goal.invariant-loop-scan
invariant-loop-scan l = record {
  so_far : (given : Given) → ForwardedTo given l.fn.words l.part 0 → IsIn given l.part → ForwardedScan given l.words l.part l.scan l.free;
  object : EndsAt l.words.rows l.part l.scan l.at l.size;
  target : EndsAt l.words.rows l.part l.free l.to l.kept;
}

abbrev pub decreases-loop-scan : goal.decreases-loop-scan
decreases-loop-scan l = l.end - l.scan
