use Rattle.std.proofs.Common.{◌≡◌, ◌++◌, take}
use Rattle.cb_asm_list.proofs.labels.push_places.Given as goal

abbrev pub invariant-loop-place : goal.invariant-loop-place
invariant-loop-place l = l.places ≡ l.initial.places ++ take l.place-index l.more
