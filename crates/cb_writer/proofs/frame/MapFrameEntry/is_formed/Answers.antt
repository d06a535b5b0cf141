use Rattle.std.proofs.Common.{sym, ◌∙◌}
use Rattle.std.proofs.lemmas.Bool.{false≢true}
use Rattle.cb_writer.proofs.FrameParts.{frame_told}
use Rattle.cb_writer.proofs.frame.MapFrameEntry.is_formed.Goals as goal
use Rattle.cb_writer.proofs.frame.MapFrameEntry.is_formed.Goals.{then-is_delta, else-is_delta}

pub returns-then-are_locals : goal.returns-then-are_locals
returns-then-are_locals c =
    let form = c.form_of_frame-form.ensures in
    elim c.if-is_delta.branch [
      | then-is_delta w ↦ frame_told c.args.names.now c.args.self.now (rw form at c.is_delta.ensures) (rw (form, w.as_slice.ensures) at w.are_locals.ensures) (rw (form, c.as_slice-then-are_locals.ensures) at c.is_stack.ensures) w.if-is_delta.true (sym w.value-is ∙ c.if-are_locals.true)
      | else-is_delta w ↦ absurd (false≢true (sym w.if-is_delta.false ∙ sym w.value-is ∙ c.if-are_locals.true))
    ]
