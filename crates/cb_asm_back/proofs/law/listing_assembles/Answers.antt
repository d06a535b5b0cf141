use Rattle.cb_asm_back.proofs.Programs.{back}
use Rattle.cb_asm_back.proofs.law.listing_assembles.Goals as goal

pub returns : goal.returns
returns c = λ text class assembles none. back text class assembles
