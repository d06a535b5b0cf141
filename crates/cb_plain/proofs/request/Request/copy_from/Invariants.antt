use Rattle.std.proofs.Common.{◌≡◌, take, length}
use Rattle.cb_plain.proofs.request.Request.copy_from.Given as goal

abbrev pub invariant-loop-i : goal.invariant-loop-i
invariant-loop-i l = (take l.i l.self-inside.wants ≡ take l.i l.other-inside.wants) × (length l.self-inside.wants ≡ 256)
