use Rattle.cb_asm_line.proofs.Cutting.{line_cut}
use Rattle.cb_asm_line.proofs.line.first_line.Goals as goal

pub returns-clause-first : goal.returns-clause-first
returns-clause-first c = line_cut c.args.text.now c.cut.result c.cut.ensures
