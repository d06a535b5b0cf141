use Rattle.std.proofs.Common.{ℕ, ◌+◌, ◌-◌, ◌<◌, get_or}
use Rattle.cb_points_to.specs.declared.tables.Slot.{Slot}
use Rattle.cb_points_to.proofs.fits.slots_ascend.Given as goal

abbrev pub invariant-loop-at : goal.invariant-loop-at
invariant-loop-at l = (k : ℕ) (d : Slot) → k < l.at - 1 → (get_or l.slots k d).site < (get_or l.slots (k + 1) d).site
