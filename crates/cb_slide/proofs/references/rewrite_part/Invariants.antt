use Rattle.std.proofs.Common.{◌≡◌, ◌+◌, ◌-◌, ◌≤◌}
use Rattle.cb_slide.specs.Sliding.{EndsAt, Given, IsIn, RewrittenScan, RewrittenTo}
use Rattle.cb_slide.proofs.references.rewrite_part.Given as goal

abbrev pub invariant-loop-scan : goal.invariant-loop-scan
invariant-loop-scan g l = (given : Given) → RewrittenTo given l.fn.words l.part 0 → IsIn given l.part → l.set ≡ given.set → l.shapes ≡ given.heap.shapes → RewrittenScan given l.words l.part l.scan × (l.steps ≤ l.fn.steps + l.scan) × EndsAt l.words.rows l.part l.scan l.at l.size

abbrev pub decreases-loop-scan : goal.decreases-loop-scan
decreases-loop-scan g l = l.end - l.scan
