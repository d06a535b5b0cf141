use Rattle.cb_interp.proofs.TurnsNumbers.{NumbersFrom}
use Rattle.cb_interp.proofs.numbers_only.has_numbers_only.Given as goal

abbrev pub invariant-loop-slot : goal.invariant-loop-slot
invariant-loop-slot l = NumbersFrom l.program l.class l.count l.slot → NumbersFrom l.program l.class l.count 0
