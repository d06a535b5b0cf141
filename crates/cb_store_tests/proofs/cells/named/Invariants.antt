use Rattle.std.proofs.Common.{◌≡◌, ◌≤◌, ℕ, false, slice_get, Some, suc}
use Rattle.cb_frames.specs.Entries.{entries}
use Rattle.cb_store_tests.proofs.cells.named.Given as goal

abbrev pub invariant-loop-i : goal.invariant-loop-i
invariant-loop-i l = (place at : ℕ) → slice_get l.marked place ≡ Some false → slice_get (entries l.roots.roots) at ≡ Some (suc place) → l.i ≤ at
