use Rattle.std.proofs.Common.{◌≤◌}
use Rattle.cb_store_tests.proofs.map_heap.are_cells.Given as goal

abbrev pub invariant-loop-last : goal.invariant-loop-last
invariant-loop-last l = l.last ≤ l.count

abbrev pub decreases-loop-last : goal.decreases-loop-last
decreases-loop-last l = l.last
