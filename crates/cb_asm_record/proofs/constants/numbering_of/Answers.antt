use Rattle.cb_asm_record.proofs.Handed.{handed}
use Rattle.cb_asm_record.proofs.Turns.{hopeless_turn}
use Rattle.cb_asm_record.proofs.constants.numbering_of.Goals as goal

pub returns-in_err-enter : goal.returns-in_err-enter
returns-in_err-enter c = handed _ _ _ _ c.from_residual.ensures (hopeless_turn _ _ _ _ c.loop-key-test.true (c.in_err-enter.ensures _ c.loop-key.invariant))
