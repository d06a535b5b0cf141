use Rattle.std.proofs.Common.{◌≡◌, ◌≤◌, ◌-◌, suc, length}
use Rattle.cb_asm.specs.BadLines.{CanStand}
use Rattle.cb_asm.specs.Inner.{StandTo}
use Rattle.cb_asm.proofs.Fronts.{end_falls}
use Rattle.cb_asm.proofs.bad_line.bad_line.Given as goal

abbrev pub invariant-halves : goal.invariant-halves
invariant-halves l = (l.stand ≤ l.fall) × (l.fall ≤ length l.ends) × StandTo l.text l.stand × (¬ CanStand l.text (suc l.fall))

abbrev pub decreases-halves : goal.decreases-halves
decreases-halves l = l.fall - l.stand
