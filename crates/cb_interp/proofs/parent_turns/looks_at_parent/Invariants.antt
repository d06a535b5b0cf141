use Rattle.cb_interp.proofs.parent_turns.looks_at_parent.Given as goal

abbrev pub ghost-behind_texts : goal.ghost-behind_texts
ghost-behind_texts g a = g.outside
