use Rattle.cb_asm_line.proofs.Filled.{some_line}
use Rattle.cb_asm_line.proofs.law.some_lines.Goals as goal

pub returns : goal.returns
returns c = some_line
