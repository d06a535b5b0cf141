use Rattle.std.proofs.Common.{◌≡◌, ℕ, true}
use Rattle.cb_dag.specs.Marks.{marked}
use Rattle.cb_dag.specs.Search.{IsSearch, steps_left}
use Rattle.cb_dag.proofs.search.Search.go_from.Given as goal

abbrev pub invariant-loop-node : goal.invariant-loop-node
invariant-loop-node l =
    IsSearch l.grid l.self.seen.items l.self.cursors.items l.self.trail l.self.left
    × ((node : ℕ) → marked l.initial.self.seen.items node ≡ true → marked l.self.seen.items node ≡ true)

abbrev pub decreases-loop-node : goal.decreases-loop-node
decreases-loop-node l = steps_left l.self.seen.items l.self.trail
