use Rattle.std.proofs.Common.{◌≡◌, Some, sym, ◌∙◌, ap}
use Rattle.cb_insn.specs.Forms.{head_form}
use Rattle.cb_insn.proofs.Written.{operand_spelled}
use Rattle.cb_insn.proofs.encoder.push_insn.Goals as goal
use Rattle.cb_insn.proofs.encoder.push_insn.Goals.{then-insn+in_ok-push, else-insn}

pub push_operand-requires : goal.push_operand-requires
push_operand-requires c =
    let insn = c.args.insn.now in
    let has : head_form insn.wide insn.opcode ≡ Some c.in-Some.form = elim c.if-insn.branch [
      | then-insn+in_ok-push w ↦ ap (λ wide. head_form wide insn.opcode) w.if-insn.true ∙ sym w.wide_form_of-form.ensures ∙ sym w.form-is ∙ c.in-Some.is
      | else-insn w ↦ ap (λ wide. head_form wide insn.opcode) w.if-insn.false ∙ sym w.form_of-form.ensures ∙ sym w.form-is ∙ c.in-Some.is
    ] in
    operand_spelled _ insn c.in-Some.form c.requires has
