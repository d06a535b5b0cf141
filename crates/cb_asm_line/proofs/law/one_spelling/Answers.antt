use Rattle.cb_asm_line.proofs.Quoted.{text_same}
use Rattle.cb_asm_line.proofs.Spelled.{name_same}
use Rattle.cb_asm_line.proofs.law.one_spelling.Goals as goal

pub returns-clause-names : goal.returns-clause-names
returns-clause-names c = name_same

pub returns-clause-texts : goal.returns-clause-texts
returns-clause-texts c = text_same
