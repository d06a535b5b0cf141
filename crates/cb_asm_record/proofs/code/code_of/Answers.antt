use Rattle.cb_asm_record.proofs.Coding.{code_all, code_more, code_refused}
use Rattle.cb_asm_record.proofs.Handed.{handed}
use Rattle.cb_asm_record.proofs.code.code_of.Goals as goal

pub returns-in_err-pc : goal.returns-in_err-pc
returns-in_err-pc c = handed _ _ _ _ c.from_residual.ensures (code_refused _ _ _ _ _ _ _ _ c.loop-line-test.true c.line-item.is c.loop-line.invariant c.in_err-pc.ensures)

pub loop-line-preserved : goal.loop-line-preserved
loop-line-preserved c = code_more _ _ _ _ _ _ _ _ _ c.loop-line-test.true c.line-item.is c.loop-line.invariant c.in_ok-pc.ensures

pub returns : goal.returns
returns c = code_all _ _ _ _ _ _ c.loop-line-test.false c.loop-line.invariant
