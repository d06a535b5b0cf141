use Rattle.std.proofs.Common.{◌≡◌, length}
use Rattle.cb_flow.specs.Networks.{IsHeld}
use Rattle.cb_flow.proofs.moving.flow_from_each.Given as goal

abbrev pub invariant-loop-part : goal.invariant-loop-part
invariant-loop-part l = IsHeld l.gains l.graph.edges l.flow × (length l.search.visits.items ≡ length l.gains) × (length l.search.seen.items ≡ length l.gains)
