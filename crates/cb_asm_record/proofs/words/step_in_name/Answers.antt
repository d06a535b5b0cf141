use Rattle.std.proofs.Common.{arith}
use Rattle.cb_asm_record.proofs.Counting.{in_name}
use Rattle.cb_asm_record.proofs.words.step_in_name.Goals as goal

pub returns-else-unit-from : goal.returns-else-unit-from
returns-else-unit-from c = λ rest. in_name c.args.unit rest (grind arith)
