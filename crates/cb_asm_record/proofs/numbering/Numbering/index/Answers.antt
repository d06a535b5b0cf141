use Rattle.cb_asm_record.proofs.Holding.{index_found, index_next}
use Rattle.cb_asm_record.proofs.numbering.Numbering.index.Goals as goal

pub returns-in-Some : goal.returns-in-Some
returns-in-Some c = λ used holds. index_found used _ _ _ _ holds c.in-Some.ensures.value

pub returns-in-None : goal.returns-in-None
returns-in-None c = λ used holds. index_next used _ _ _ _ holds c.in-None.ensures.value c.len.ensures
