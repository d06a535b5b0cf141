use Rattle.std.proofs.Common.{◌≡◌, false, take}
use Rattle.cb_mapheap.specs.Room.{one_has_reached}
use Rattle.cb_mapheap.proofs.limits.one_reaches.Given as goal

abbrev pub invariant-loop-i : goal.invariant-loop-i
invariant-loop-i l = one_has_reached l.most (take l.i l.request) ≡ false
