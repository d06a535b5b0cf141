use Rattle.std.proofs.Common.{◌≡◌, length}
use Rattle.cb_memory_cases.proofs.blocks.tell.Given as goal

abbrev pub invariant-loop : goal.invariant-loop
invariant-loop l = length l.blocks.words ≡ l.parts
