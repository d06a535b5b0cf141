use Rattle.std.proofs.Common.{◌≡◌, length}
use Rattle.cb_memory_cases.proofs.strings.tell_stack.Given as goal

abbrev pub invariant-loop-word : goal.invariant-loop-word
invariant-loop-word l = (length l.stack.places ≡ l.count) × (l.stack.room ≡ 100)
