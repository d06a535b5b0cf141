use Rattle.std.proofs.Common.{◌≡◌, ◌<◌, ℕ, true, []}
use Rattle.cb_dag.specs.Marks.{marked}
use Rattle.cb_dag.specs.Search.{IsSearch}
use Rattle.cb_dag.proofs.search.nodes_left.Given as goal

abbrev pub invariant-loop-root : goal.invariant-loop-root
invariant-loop-root l =
    IsSearch l.grid l.search.seen.items l.search.cursors.items l.search.trail l.search.left
    × (l.search.trail ≡ [])
    × ((node : ℕ) → node < l.root → marked l.search.seen.items node ≡ true)
