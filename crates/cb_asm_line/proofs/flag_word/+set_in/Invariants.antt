use Rattle.std.proofs.Common.{length}
use Rattle.cb_asm_line.proofs.flag_word.+set_in.Given as goal

abbrev pub decreases-set_in : goal.decreases-set_in
decreases-set_in l = length l.words.now
