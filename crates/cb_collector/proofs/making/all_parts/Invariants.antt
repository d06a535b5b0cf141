use Rattle.std.proofs.Common.{◌≡◌, ◌<◌, ℕ, true, false, get_or, length}
use Rattle.cb_collector.proofs.making.all_parts.Given as goal

abbrev pub invariant-loop-part : goal.invariant-loop-part
invariant-loop-part l = (length l.set ≡ l.parts) × ((k : ℕ) → k < l.part → get_or l.set k false ≡ true)
