use Rattle.cb_asm.proofs.Records.{one_record}
use Rattle.cb_asm.proofs.law.one_record.Goals as goal

pub returns : goal.returns
returns c = one_record
