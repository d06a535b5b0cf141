use Rattle.std.proofs.Common.{◌≡◌, ◌<◌, ◌⊎◌, ℕ, Some, slice_get}
use Rattle.std.specs.List.{Contains}
use Rattle.cb_frames.specs.Entries.{entries}
use Rattle.cb_collection_cases.proofs.collecting.are_named.Given as goal

abbrev pub invariant-loop-i : goal.invariant-loop-i
invariant-loop-i l = (k at : ℕ) → k < l.i → slice_get (entries l.roots.roots) k ≡ Some at → (at ≡ 0) ⊎ Contains l.places at
