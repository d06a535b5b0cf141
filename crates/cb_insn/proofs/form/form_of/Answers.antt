use Rattle.std.proofs.Common.{◌∙◌, arith}
use Rattle.cb_insn.proofs.FormTable.{entry}
use Rattle.cb_insn.proofs.form.form_of.Goals as goal

pub returns : goal.returns
returns c = c.form_in.ensures ∙ entry c.args.opcode (omega arith)
