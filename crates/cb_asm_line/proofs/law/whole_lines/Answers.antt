use Rattle.cb_asm_line.proofs.Shown.{whole_line}
use Rattle.cb_asm_line.proofs.law.whole_lines.Goals as goal

pub returns : goal.returns
returns c = whole_line
