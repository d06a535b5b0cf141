use Rattle.cb_asm_line.proofs.operand_words.array_of.Goals as goal

pub returns : goal.returns
returns c = record { first = c.in_ok-word.word.now; are = c.in_ok-word.ensures; says = let told = c.in_ok-code.ensures in record { least = told.0; most = told.1; spelled = told.2 } }
