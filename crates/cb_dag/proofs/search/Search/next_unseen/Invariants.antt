use Rattle.std.proofs.Common.{◌≤◌, ◌-◌, length, slice_index}
use Rattle.cb_dag.specs.Marks.{AllSeen}
use Rattle.cb_dag.proofs.search.Search.next_unseen.Given as goal

abbrev pub invariant-loop-next : goal.invariant-loop-next
invariant-loop-next l = (slice_index l.self.cursors.items l.node ≤ l.from) × AllSeen l.grid l.self.seen.items l.node (slice_index l.self.cursors.items l.node) l.from

abbrev pub decreases-loop-next : goal.decreases-loop-next
decreases-loop-next l = length l.grid - l.from
