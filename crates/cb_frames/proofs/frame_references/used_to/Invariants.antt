use Rattle.std.proofs.Common.{◌-◌, ◌+◌, ◌<◌, ◌≤◌, get_or, length}
use Rattle.cb_frames.proofs.frame_references.used_to.Given as goal

-- the frame is at `high` or above it, and below those that are above `low`
abbrev pub invariant-loop-low : goal.invariant-loop-low
invariant-loop-low l = record {
  free : l.free ≤ l.low;
  order : l.low ≤ l.high;
  inside : l.high < length l.below;
  above : l.free < l.low → l.slot < (get_or l.below (l.low - 1) l.top).base;
  begins : l.high + 1 < length l.below → (get_or l.below l.high l.top).base ≤ l.slot;
}

abbrev pub decreases-loop-low : goal.decreases-loop-low
decreases-loop-low l = l.high - l.low
