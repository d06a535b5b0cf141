use Rattle.std.proofs.Common.{◌≡◌, ◌<◌, ℕ, false, true, [], length, slice_index}
use Rattle.cb_dag.specs.Graphs.{HasEdge}
use Rattle.cb_dag.specs.Search.{AreRoots, IsFinishing, is_in}
use Rattle.cb_dag.proofs.roots.roots.Given as goal

abbrev pub invariant-loop-root : goal.invariant-loop-root
invariant-loop-root l =
    AreRoots l.grid l.roots.items
    × IsFinishing (HasEdge l.grid) (length l.grid) l.left
    × (l.waiting ≡ [])
    × ((node : ℕ) → node < length l.grid → is_in node l.left ≡ false → slice_index l.roots.items node < length l.grid)
    × ((node : ℕ) → is_in node l.left ≡ true → node < length l.grid)

abbrev pub decreases-loop-root : goal.decreases-loop-root
decreases-loop-root l = length l.left
