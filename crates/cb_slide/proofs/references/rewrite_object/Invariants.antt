use Rattle.std.proofs.Common.{◌≡◌, ◌+◌}
use Rattle.cb_partheap.specs.Spots.{Spot}
use Rattle.cb_slide.specs.Sliding.{Given, Rewrites, RewrittenTo}
use Rattle.cb_slide.proofs.references.rewrite_object.Given as goal

abbrev pub invariant-loop-i : goal.invariant-loop-i
invariant-loop-i g l = record {
  so_far : (given : Given) → (spot : Spot) → Rewrites given l.fn.words l.shapes l.set l.at l.size spot → RewrittenTo given l.words spot.part (spot.start + (3 + l.i));
  counted : l.steps ≡ l.fn.steps + l.i;
}
