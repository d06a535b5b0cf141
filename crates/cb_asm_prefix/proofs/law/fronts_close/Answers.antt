use Rattle.cb_asm_prefix.proofs.Closed.{front_closes}
use Rattle.cb_asm_prefix.proofs.law.fronts_close.Goals as goal

pub returns : goal.returns
returns c = front_closes
