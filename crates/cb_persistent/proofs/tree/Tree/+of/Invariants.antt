use Rattle.std.proofs.Common.{length}
use Rattle.cb_persistent.proofs.tree.Tree.+of.Given as goal

abbrev pub decreases-of : goal.decreases-of
decreases-of g l = length l.given.now
