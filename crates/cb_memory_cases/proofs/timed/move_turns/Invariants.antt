use Rattle.std.proofs.Common.{◌≡◌, length}
use Rattle.cb_memory_cases.proofs.timed.move_turns.Given as goal

abbrev pub invariant-loop : goal.invariant-loop
invariant-loop l = length l.blocks.words ≡ length l.initial.blocks.words
