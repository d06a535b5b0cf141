use Rattle.std.proofs.Common.{◌≡◌, ◌++◌, map, take}
use Rattle.cb_asm.proofs.open_labels.push_labels.Given as goal

abbrev pub invariant-loop-label : goal.invariant-loop-label
invariant-loop-label l = map (λ label. label.now) l.named.items ≡ map (λ label. label.now) l.initial.named.items ++ take l.label-index l.labels
