use Rattle.cb_persistent.proofs.tree.Tree.+filled.Given as goal

abbrev pub decreases-filled : goal.decreases-filled
decreases-filled g l = l.len
