use Rattle.std.proofs.Common.{◌≡◌, ◌+◌, ◌-◌, ◌*◌}
use Rattle.cb_trace.specs.Marking.{BehindTo, Given, StandsAt}
use Rattle.cb_trace.proofs.marking.mark_behind.Given as goal

abbrev pub invariant-loop-at : goal.invariant-loop-at
invariant-loop-at g l = (given : Given) → StandsAt given l.fn.words l.fn.grey l.set l.fn.grey.places 0 → l.shapes ≡ given.heap.shapes → BehindTo given l.fn.words l.words l.grey l.set l.fn.steps l.steps

abbrev pub decreases-loop-at : goal.decreases-loop-at
decreases-loop-at g l = l.fn.steps + 256 * l.fn.words.blocks - l.steps
