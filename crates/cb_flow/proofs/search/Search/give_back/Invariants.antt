use Rattle.std.proofs.Common.{◌≡◌, ◌<◌, ℕ, true, get_or}
use Rattle.cb_dag.specs.Marks.{marked}
use Rattle.cb_flow.specs.Visits.{Grows, IsSearch}
use Rattle.cb_flow.proofs.search.Search.give_back.Given as goal

abbrev pub invariant-loop-edge : goal.invariant-loop-edge
invariant-loop-edge l =
    IsSearch l.gains l.graph.edges l.flow l.self.visits.items l.self.count l.self.seen.items
    × Grows l.initial.self.visits.items l.initial.self.count l.initial.self.seen.items l.self.visits.items l.self.count l.self.seen.items
    × ((k : ℕ) → k < l.edge-index → 0 < get_or l.flow.arcs (get_or l.edges k 0) 0 → marked l.self.seen.items (get_or l.graph.edges (get_or l.edges k 0) (0, 0)).1 ≡ true)
