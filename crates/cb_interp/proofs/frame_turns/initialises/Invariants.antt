use Rattle.cb_interp.proofs.frame_turns.initialises.Given as goal

abbrev pub ghost-init_turn : goal.ghost-init_turn
ghost-init_turn g a = g.outside

abbrev pub ghost-throws_at : goal.ghost-throws_at
ghost-throws_at g a = g.outside
