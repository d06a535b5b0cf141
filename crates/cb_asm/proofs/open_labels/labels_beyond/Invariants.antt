use Rattle.std.proofs.Common.{map, take}
use Rattle.cb_asm.proofs.Labels.{AreTaken, had}
use Rattle.cb_asm.proofs.open_labels.labels_beyond.Given as goal

abbrev pub invariant-loop-label : goal.invariant-loop-label
invariant-loop-label l = AreTaken (had l.initial.standing) (had l.standing) (map (λ label. label.now) (take l.label-index l.named)) (map (λ label. label.now) l.labels.items)
