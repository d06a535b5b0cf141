use Rattle.std.proofs.Common.{◌+◌, ◌-◌, length}
use Rattle.cb_runner.proofs.Reading.{Gathered}
use Rattle.cb_runner.proofs.input.read_input.Given as goal

abbrev pub invariant-loop-input : goal.invariant-loop-input
invariant-loop-input g l = Gathered g.S.Source.left g.S.Source.gave l.limit l.fn.input l.input l.bytes.items (g.S.Source.faults l.fn.input) (g.S.Source.faults l.input)

abbrev pub decreases-loop-input : goal.decreases-loop-input
decreases-loop-input g l = l.limit + 1 - length l.bytes.items
