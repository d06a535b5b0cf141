use Rattle.std.proofs.Common.{◌+◌, ◌-◌, ◌≤◌}
use Rattle.cb_blocks.specs.Parted.{Parted}
use Rattle.cb_slide.specs.Sliding.{CompactScan, EndsAt, Given, IsIn, SlidTo}
use Rattle.cb_slide.proofs.moving.compact_part.Given as goal

abbrev pub invariant-loop-scan : goal.invariant-loop-scan
invariant-loop-scan g l = record {
  so_far : (given : Given) → (before : Parted) → SlidTo given before l.fn.words l.part → IsIn given l.part → CompactScan given before l.fn.words l.words l.part l.free l.first l.scan;
  counted : l.steps ≤ l.fn.steps + l.free;
  object : EndsAt l.words.rows l.part l.scan l.at l.size;
  source : EndsAt l.words.rows l.part l.first l.gap.0 l.gap.1;
  target : EndsAt l.words.rows l.part l.free l.last.0 l.last.1;
}

abbrev pub decreases-loop-scan : goal.decreases-loop-scan
decreases-loop-scan g l = l.end - l.scan
