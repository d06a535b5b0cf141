use Rattle.std.proofs.Common.{◌≡◌, ◌+◌, ◌≤◌}
use Rattle.cb_slide.specs.Sliding.{Given, RewrittenTo, words_before}
use Rattle.cb_slide.proofs.references.rewrite_set.Given as goal

abbrev pub invariant-loop-part : goal.invariant-loop-part
invariant-loop-part g l = (given : Given) → RewrittenTo given l.fn.words 0 0 → l.set ≡ given.set → l.shapes ≡ given.heap.shapes → RewrittenTo given l.words l.part 0 × (l.steps ≤ l.fn.steps + words_before given l.part)
