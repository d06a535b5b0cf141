use Rattle.std.proofs.Common.{arith, sym}
use Rattle.cb_asm_list.proofs.Lines.{no_array_type}
use Rattle.cb_asm_list.proofs.operand.array_type.Goals as goal

pub returns-in_default : goal.returns-in_default
returns-in_default c = sym (no_array_type c.args.code (omega arith))
