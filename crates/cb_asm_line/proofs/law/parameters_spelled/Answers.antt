use Rattle.cb_asm_line.proofs.Parameters.{parameters_are}
use Rattle.cb_asm_line.proofs.law.parameters_spelled.Goals as goal

pub returns : goal.returns
returns c = parameters_are
