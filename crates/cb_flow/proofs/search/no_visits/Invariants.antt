use Rattle.std.proofs.Common.{◌≡◌, length}
use Rattle.cb_flow.proofs.search.no_visits.Given as goal

abbrev pub invariant-loop-part : goal.invariant-loop-part
invariant-loop-part l = length l.visits.items ≡ l.part
