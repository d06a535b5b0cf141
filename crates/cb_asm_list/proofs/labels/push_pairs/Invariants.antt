use Rattle.std.proofs.Common.{◌≡◌, ◌++◌, map, take}
use Rattle.cb_asm_list.proofs.labels.push_pairs.Given as goal

abbrev pub invariant-loop-pair : goal.invariant-loop-pair
invariant-loop-pair l = l.places ≡ l.initial.places ++ map (λ pair. pair.target) (take l.pair-index l.pairs)
