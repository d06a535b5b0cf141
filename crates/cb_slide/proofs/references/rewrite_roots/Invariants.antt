use Rattle.std.proofs.Common.{◌≡◌, ◌+◌}
use Rattle.cb_frames.specs.Entries.{without_references}
use Rattle.cb_slide.specs.Sliding.{Given, IsForwarded, RootsTo}
use Rattle.cb_slide.proofs.references.rewrite_roots.Given as goal

abbrev pub invariant-loop-i : goal.invariant-loop-i
invariant-loop-i g l = record {
  so_far : (given : Given) → IsForwarded given l.words → l.fn.roots.roots ≡ given.roots → l.set ≡ given.set → RootsTo given l.roots.roots l.i;
  same : without_references l.roots.roots ≡ without_references l.fn.roots.roots;
  limit : l.roots.limit ≡ l.fn.roots.limit;
  counted : l.steps ≡ l.fn.steps + l.i;
}
