use Rattle.std.proofs.Common.{take}
use Rattle.cb_asm.proofs.Labels.{Stand, had}
use Rattle.cb_asm.proofs.open_labels.standing_labels.Given as goal

abbrev pub invariant-loop-line : goal.invariant-loop-line
invariant-loop-line l = Stand (take l.line-index l.lines) (had l.standing)
