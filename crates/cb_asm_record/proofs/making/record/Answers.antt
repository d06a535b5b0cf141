use Rattle.cb_asm_record.proofs.Bounds.{has_code, has_record}
use Rattle.cb_asm_record.proofs.making.record.Goals as goal

pub returns-in-Ok : goal.returns-in-Ok
returns-in-Ok c = (c.in-Ok.ensures.is, has_code c.args.program.now c.in-Ok.ensures.asked)

pub returns-in-Err-NoRecord : goal.returns-in-Err-NoRecord
returns-in-Err-NoRecord c = λ is. c.in-Err-NoRecord.ensures c.in-Err-NoRecord.field-0-is (has_record c.args.program.now is)
