use Rattle.std.proofs.Common.{◌≡◌, ◌<◌, ℕ, false, length}
use Rattle.cb_dag.specs.Marks.{marked}
use Rattle.cb_flow.proofs.search.unmark.Given as goal

abbrev pub invariant-loop-part : goal.invariant-loop-part
invariant-loop-part l = (length l.seen.items ≡ length l.initial.seen.items) × ((other : ℕ) → other < l.part → marked l.seen.items other ≡ false)
