use Rattle.cb_safety.proofs.Coded.{well_formed_code, well_formed_spelled}
use Rattle.cb_safety.proofs.programs.well_formed_code.Goals as goal

pub returns : goal.returns
returns c = λ program formed. (well_formed_spelled program formed, well_formed_code program formed)
