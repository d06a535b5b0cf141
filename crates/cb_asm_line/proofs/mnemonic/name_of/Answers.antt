use Rattle.std.proofs.Common.{◌∙◌, ap, slice_get}
use Rattle.cb_asm_line.proofs.Table.{table}
use Rattle.cb_asm_line.proofs.mnemonic.name_of.Goals as goal

pub returns : goal.returns
returns c = c.name_in.ensures ∙ ap (λ names. slice_get names c.args.opcode) table
