use Rattle.std.proofs.Common.{◌-◌, length, take}
use Rattle.cb_verify.proofs.LaidSteps.{Holds}
use Rattle.cb_verify.proofs.laid.Laid.without_last.Given as goal

abbrev pub invariant-loop : goal.invariant-loop
invariant-loop l = Holds (length l.fn.self.locals) (take (length l.fn.self.values - l.counter) l.fn.self.values) l.all
