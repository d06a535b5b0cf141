use Rattle.cb_asm_line.proofs.switch_words.lookup_operand.Goals as goal

pub returns-in-None : goal.returns-in-None
returns-in-None c = let none = rw c.in-None.is at c.in_ok-default.ensures in λ operand has. none has.part has.says
