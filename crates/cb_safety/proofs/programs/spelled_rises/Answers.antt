use Rattle.cb_safety.proofs.Rising.{code_rises}
use Rattle.cb_safety.proofs.programs.spelled_rises.Goals as goal

pub returns : goal.returns
returns c = code_rises
