use Rattle.cb_interp.proofs.frame_turns.initial_turn.Given as goal

abbrev pub ghost-initialises : goal.ghost-initialises
ghost-initialises g a = g.outside

abbrev pub ghost-parent_failed : goal.ghost-parent_failed
ghost-parent_failed g a = g.outside

abbrev pub ghost-looks_at_parent : goal.ghost-looks_at_parent
ghost-looks_at_parent g a = g.outside
