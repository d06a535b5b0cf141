use Rattle.std.proofs.Common.{◌≡◌, ◌++◌, take}
use Rattle.cb_asm_list.proofs.frame_types.push_copies.Given as goal

abbrev pub invariant-loop-kind : goal.invariant-loop-kind
invariant-loop-kind l = l.types ≡ l.initial.types ++ take l.kind-index l.more
