use Rattle.cb_interp.proofs.parent_turns.behind_asked.Given as goal

abbrev pub ghost-ask_own : goal.ghost-ask_own
ghost-ask_own g a = g.outside

abbrev pub ghost-behind_placed : goal.ghost-behind_placed
ghost-behind_placed g a = g.outside
