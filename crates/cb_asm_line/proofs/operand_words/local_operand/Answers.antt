use Rattle.cb_asm_line.proofs.operand_words.local_operand.Goals as goal

pub returns-in-None : goal.returns-in-None
returns-in-None c = λ operand has. c.in-None.ensures has.part has.says
