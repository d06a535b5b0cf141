use Rattle.cb_interp.proofs.frame_turns.pending_turn.Given as goal

abbrev pub ghost-unwinds : goal.ghost-unwinds
ghost-unwinds g a = g.outside
