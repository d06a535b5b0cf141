use Rattle.std.proofs.Common.{◌≡◌, take}
use Rattle.cb_heap.specs.Grants.{words_granted}
use Rattle.cb_mapheap.proofs.limits.words_asked.Given as goal

abbrev pub invariant-loop-i : goal.invariant-loop-i
invariant-loop-i l = l.sum ≡ words_granted (take l.i l.request)
