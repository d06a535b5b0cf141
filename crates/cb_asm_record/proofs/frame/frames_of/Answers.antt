use Rattle.cb_asm_record.proofs.Frames.{frames_all, frames_more, frames_refused}
use Rattle.cb_asm_record.proofs.Handed.{handed}
use Rattle.cb_asm_record.proofs.frame.frames_of.Goals as goal

pub returns-in_err-place : goal.returns-in_err-place
returns-in_err-place c = handed _ _ _ _ c.from_residual-in_err-place.ensures (frames_refused _ _ _ _ _ _ _ _ c.loop-line-test.true c.line-item.is c.loop-line.invariant c.in_err-place.ensures)

pub loop-line-preserved : goal.loop-line-preserved
loop-line-preserved c = frames_more _ _ _ _ _ _ _ _ _ c.loop-line-test.true c.line-item.is c.loop-line.invariant c.in_ok-place.ensures

pub returns : goal.returns
returns c = frames_all _ _ _ _ _ _ c.loop-line-test.false c.loop-line.invariant
