use Rattle.std.proofs.Common.{◌≡◌, ◌∙◌, ap, map}
use Rattle.cb_asm.specs.Inner.{label_lines_text}
use Rattle.cb_asm.proofs.Closed.{begins_ok, open_closes, open_falls, open_none}
use Rattle.cb_asm.proofs.Programs.{none_told, some_told}
use Rattle.cb_asm.proofs.closing.closes_open.Goals as goal

pub returns-in_default-clause-falls : goal.returns-in_default-clause-falls
returns-in_default-clause-falls c = λ _.
    open_none c.args.front.now c.as_slice.result.now (c.as_slice.ensures.value ∙ c.in_ok-text.ensures) (none_told c.in_ok-program.field-0 _ _ c.in_ok-program.ensures c.in_default.is)

pub returns-clause-stands : goal.returns-clause-stands
returns-clause-stands c = begins_ok c.args.front.now _ c.closes.result c.closes.ensures

pub returns-clause-falls : goal.returns-clause-falls
returns-clause-falls c =
    let read = some_told c.in_ok-program.field-0 _ _ c.in-Some.program c.in_ok-program.ensures c.in-Some.is in
    open_falls c.args.front.now _ c.closes.result c.closes.ensures (open_closes c.args.front.now c.as_slice.result.now c.in-Some.program (map (λ label. label.now) c.in_ok-labels.labels.items) _ (c.as_slice.ensures.value ∙ c.in_ok-text.ensures) read.0 read.1 c.in_ok-labels.ensures (c.as_slice-3.ensures.value ∙ c.in_ok-closing.ensures ∙ ap (λ labels. label_lines_text (map (λ label. label.now) labels)) c.as_slice-2.ensures.value))
