use Rattle.cb_link.proofs.Laws.{special_one_of}
use Rattle.cb_interp.proofs.turn.linked_selects.Goals as goal

pub returns : goal.returns
returns c = λ program method pc is. special_one_of program (c.linked_programs.ensures.whole program is) method pc
