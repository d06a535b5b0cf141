use Rattle.cb_asm_line.proofs.named_operand.kind_operand.Goals as goal

pub returns-in-Some : goal.returns-in-Some
returns-in-Some c = rw c.in-Some.is c.named_operand.ensures
