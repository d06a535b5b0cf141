use Rattle.cb_asm_line.proofs.Cutting.{word_cut}
use Rattle.cb_asm_line.proofs.line.first_word.Goals as goal

pub returns-clause-first : goal.returns-clause-first
returns-clause-first c = word_cut c.args.line.now c.cut.result c.cut.ensures
