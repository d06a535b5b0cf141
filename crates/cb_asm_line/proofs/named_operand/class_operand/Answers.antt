use Rattle.cb_asm_line.proofs.named_operand.class_operand.Goals as goal

pub returns-in-None : goal.returns-in-None
returns-in-None c = let none = rw c.in-None.is at c.in_ok-name.ensures in λ operand has. none has.part has.says
