use Rattle.std.proofs.Common.{◌≡◌, ◌≤◌, ◌-◌, ℕ, List, ◌∷◌, length}
use Rattle.cb_dag.specs.Search.{IsGathering, roots_left}
use Rattle.cb_dag.proofs.roots.take_in.Given as goal

abbrev pub invariant-loop-other : goal.invariant-loop-other
invariant-loop-other l =
    ((first : List ℕ) → IsGathering l.grid first l.initial.roots.items l.root (l.node ∷ l.initial.waiting) (length l.grid) 0
    → IsGathering l.grid first l.roots.items l.root l.waiting l.node l.from)
    × (length l.roots.items ≡ length l.grid)
    × (roots_left (length l.grid) l.roots.items l.waiting ≤ roots_left (length l.grid) l.initial.roots.items l.initial.waiting)

abbrev pub decreases-loop-other : goal.decreases-loop-other
decreases-loop-other l = length l.turned - l.from
