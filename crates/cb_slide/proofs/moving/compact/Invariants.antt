use Rattle.std.proofs.Common.{◌≡◌, ◌+◌, ◌≤◌}
use Rattle.cb_slide.specs.Sliding.{Given, IsRewritten, SlidTo, words_before}
use Rattle.cb_slide.proofs.moving.compact.Given as goal

abbrev pub invariant-loop-part : goal.invariant-loop-part
invariant-loop-part g l = (given : Given) → IsRewritten given l.fn.words → l.set ≡ given.set → SlidTo given l.fn.words l.words l.part × (l.steps ≤ l.fn.steps + words_before given l.part)
