use Rattle.cb_interp.proofs.parent_turns.behind_placed.Given as goal

abbrev pub ghost-begin_placed : goal.ghost-begin_placed
ghost-begin_placed g a = g.outside
