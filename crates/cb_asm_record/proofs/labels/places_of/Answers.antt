use Rattle.cb_asm_record.proofs.Handed.{handed}
use Rattle.cb_asm_record.proofs.Laying.{astray_turn, walked_all}
use Rattle.cb_asm_record.proofs.labels.places_of.Goals as goal

pub returns-in_err-pc : goal.returns-in_err-pc
returns-in_err-pc c = handed _ _ _ _ c.from_residual.ensures (astray_turn _ _ _ _ c.loop-line-test.true c.line-item.is (c.in_err-pc.ensures _ c.loop-line.invariant))

pub returns : goal.returns
returns c = walked_all _ _ _ _ c.loop-line-test.false c.loop-line.invariant
