use Rattle.std.proofs.Common.{length}
use Rattle.cb_asm_line.proofs.flag.+push_set.Given as goal

abbrev pub decreases-push_set : goal.decreases-push_set
decreases-push_set l = length l.words.now
