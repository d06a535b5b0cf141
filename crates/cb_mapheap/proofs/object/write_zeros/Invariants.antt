use Rattle.std.proofs.Common.{◌≡◌, ◌++◌, replicate, vec_capacity}
use Rattle.cb_mapheap.proofs.object.write_zeros.Given as goal

abbrev pub invariant-loop : goal.invariant-loop
invariant-loop l = (l.words.items ≡ l.initial.words.items ++ replicate l.counter 0) × (vec_capacity l.words ≡ vec_capacity l.initial.words)
