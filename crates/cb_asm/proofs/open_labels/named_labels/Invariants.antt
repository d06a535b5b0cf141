use Rattle.std.proofs.Common.{◌≡◌, map, take}
use Rattle.cb_asm_prefix.specs.Closing.{named_labels}
use Rattle.cb_asm.proofs.open_labels.named_labels.Given as goal

abbrev pub invariant-loop-line : goal.invariant-loop-line
invariant-loop-line l = map (λ label. label.now) l.named.items ≡ named_labels (take l.line-index l.lines)
