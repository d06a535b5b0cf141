use Rattle.std.proofs.Common.{◌≡◌, ◌<◌, ℕ, List, true, slice_index}
use Rattle.cb_dag.specs.Flows.{gain_at, positive}
use Rattle.cb_dag.specs.Marks.{marked}
use Rattle.cb_flow.specs.Visits.{AreVisited, IsSearch}
use Rattle.cb_flow.proofs.search.Search.start.Given as goal

abbrev pub invariant-loop-part : goal.invariant-loop-part
invariant-loop-part l =
    ((edges : List (ℕ × ℕ)) → IsSearch l.gains edges l.flow l.self.visits.items l.self.count l.self.seen.items)
    × AreVisited l.self.visits.items l.self.count l.self.seen.items
    × ((earlier : ℕ) → earlier < l.part → slice_index l.flow.sources earlier < positive (gain_at l.gains earlier) → marked l.self.seen.items earlier ≡ true)
