use Rattle.std.proofs.Common.{◌≡◌, length}
use Rattle.cb_flow.proofs.search.unmark_visited.Given as goal

abbrev pub invariant-loop-x : goal.invariant-loop-x
invariant-loop-x l = length l.seen.items ≡ length l.initial.seen.items
