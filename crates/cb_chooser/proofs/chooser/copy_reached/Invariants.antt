use Rattle.std.proofs.Common.{◌≡◌, length, take}
use Rattle.cb_chooser.proofs.chooser.copy_reached.Given as goal

abbrev pub invariant-loop-part : goal.invariant-loop-part
invariant-loop-part l = (length l.set ≡ length l.network.reached) × (take l.part l.set ≡ take l.part l.network.reached)
