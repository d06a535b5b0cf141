use Rattle.std.proofs.Common.{◌≡◌, ◌+◌}
use Rattle.cb_slide.proofs.moving.move_run.Given as goal

abbrev pub invariant-loop-word : goal.invariant-loop-word
invariant-loop-word g l = l.steps ≡ l.fn.steps + l._word
