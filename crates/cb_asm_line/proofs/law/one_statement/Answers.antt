use Rattle.cb_asm_line.proofs.SameStatements.{one_statement}
use Rattle.cb_asm_line.proofs.law.one_statement.Goals as goal

pub returns : goal.returns
returns c = one_statement
