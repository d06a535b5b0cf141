use Rattle.std.proofs.Common.{◌≡◌, length, take}
use Rattle.cb_flow.proofs.network.copy_gains.Given as goal

abbrev pub invariant-loop-part : goal.invariant-loop-part
invariant-loop-part l = (length l.gains.items ≡ length l.from) × (take l.part l.gains.items ≡ take l.part l.from)
