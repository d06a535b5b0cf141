use Rattle.std.proofs.Common.{◌≡◌, ◌++◌, map, take}
use Rattle.cb_asm.proofs.open_labels.push_targets.Given as goal

abbrev pub invariant-loop-pair : goal.invariant-loop-pair
invariant-loop-pair l = map (λ label. label.now) l.named.items ≡ map (λ label. label.now) l.initial.named.items ++ map (λ pair. pair.1) (take l.pair-index l.pairs)
