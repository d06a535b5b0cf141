use Rattle.cb_asm_line.proofs.switch_words.table_operand.Goals as goal

pub returns-in-None : goal.returns-in-None
returns-in-None c = let none = rw c.in-None.is at c.in_ok-low.ensures in λ operand has. none has.part has.says
