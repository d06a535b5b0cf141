use Rattle.cb_interp.proofs.parent_turns.behind_texts.Given as goal

abbrev pub ghost-throws_at : goal.ghost-throws_at
ghost-throws_at g a = g.outside

abbrev pub ghost-behind_asked : goal.ghost-behind_asked
ghost-behind_asked g a = g.outside
