use Rattle.cb_asm_line.proofs.Programs.{program_said}
use Rattle.cb_asm_line.proofs.law.program_said.Goals as goal

pub returns : goal.returns
returns c = program_said
