use Rattle.std.proofs.Common.{◌≡◌, ◌<◌, false, length}
use Rattle.std.specs.List.{All}
use Rattle.cb_memory_cases.specs.Timed.{HasWords}
use Rattle.cb_memory_cases.proofs.turns.put_turns.Given as goal

abbrev pub invariant-loop-turn : goal.invariant-loop-turn
invariant-loop-turn g l = (l.object < l.count) × (l.word < l.size) × (l.count ≡ length l.places) × All (HasWords (g.S.Store.storage l.store) false l.size) l.places
