use Rattle.cb_asm_line.proofs.operand_words.branch_operand.Goals as goal

pub returns-in-None : goal.returns-in-None
returns-in-None c = let none = rw c.in-None.is at c.in_ok-label.ensures in λ operand has. none has.part has.says
