use Rattle.std.proofs.Common.{◌≡◌, length, map}
use Rattle.cb_frames.specs.Inner.{wiped}
use Rattle.cb_frames.specs.Slots.{value_of}
use Rattle.cb_frames.proofs.arguments.wipe.Given as goal

abbrev pub invariant-loop-i : goal.invariant-loop-i
invariant-loop-i l = (map value_of l.slots ≡ wiped (map value_of l.initial.slots) l.from l.i) × (length l.slots ≡ length l.initial.slots)
