use Rattle.std.proofs.Common.{◌++◌, length, take}
use Rattle.cb_verify.proofs.LaidSteps.{Holds}
use Rattle.cb_verify.proofs.laid.Laid.append.Given as goal

abbrev pub invariant-loop-value : goal.invariant-loop-value
invariant-loop-value l = Holds (length l.fn.self.locals) (l.fn.self.values ++ take l.value-index l.more) l.all
