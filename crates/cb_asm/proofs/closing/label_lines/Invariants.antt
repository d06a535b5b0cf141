use Rattle.std.proofs.Common.{◌≡◌, take}
use Rattle.std.specs.List.{flat_map}
use Rattle.cb_asm.specs.Inner.{label_text}
use Rattle.cb_asm.proofs.closing.label_lines.Given as goal

abbrev pub invariant-loop-label : goal.invariant-loop-label
invariant-loop-label l = l.text.items ≡ flat_map (λ label. label_text label.now) (take l.label-index l.labels)
