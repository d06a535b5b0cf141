use Rattle.std.proofs.Common.{◌<◌, ◌≤◌, ◌-◌, ℕ, length}
use Rattle.cb_flow.specs.Visits.{AreFull, Grows, IsExplored, IsSearch, part_at}
use Rattle.cb_flow.proofs.search.Search.advance.Given as goal

abbrev pub invariant-loop-head : goal.invariant-loop-head
invariant-loop-head l =
    IsSearch l.gains l.graph.edges l.flow l.self.visits.items l.self.count l.self.seen.items
    × Grows l.initial.self.visits.items l.initial.self.count l.initial.self.seen.items l.self.visits.items l.self.count l.self.seen.items
    × ((x : ℕ) → x < l.head → IsExplored l.gains l.graph.edges l.flow l.self.seen.items (part_at l.self.visits.items x))
    × (l.head ≤ l.self.count)
    × AreFull l.gains l.flow l.self.visits.items 0 l.looked
    × (l.looked ≤ l.self.count)

abbrev pub decreases-loop-head : goal.decreases-loop-head
decreases-loop-head l = length l.gains - l.head
