use Rattle.cb_asm_line.proofs.Distinct.{one_place}
use Rattle.cb_asm_line.proofs.law.one_opcode.Goals as goal

pub returns : goal.returns
returns c = one_place
