use Rattle.std.proofs.Common.{◌≡◌, ◌<◌, length}
use Rattle.cb_memory_cases.proofs.turns.get_turns.Given as goal

abbrev pub invariant-loop : goal.invariant-loop
invariant-loop g l = (l.object < l.count) × (l.word < l.size) × (l.count ≡ length l.places)
