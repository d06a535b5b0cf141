use Rattle.cb_insn.proofs.Laws.{one_code_spelled}
use Rattle.cb_insn.proofs.law.one_code.Goals as goal

pub returns : goal.returns
returns c = one_code_spelled
