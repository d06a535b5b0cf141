use Rattle.std.proofs.Common.{◌∙◌, ap}
use Rattle.std.proofs.lemmas.List.{take_all}
use Rattle.std.specs.List.{flat_map}
use Rattle.cb_asm.specs.Inner.{label_text}
use Rattle.cb_asm.proofs.Closed.{labels_closed}
use Rattle.cb_asm.proofs.closing.label_lines.Goals as goal

pub returns : goal.returns
returns c = labels_closed c.args.labels.now c.loop-label.text.items c.extend_from_slice.new.self.items (c.loop-label.invariant ∙ ap (λ labels. flat_map (λ label. label_text label.now) labels) (take_all c.loop-label.label-index c.args.labels.now c.loop-label-test.false)) c.in_ok-extend_from_slice.ensures.items
