use Rattle.cb_interp.proofs.frame_turns.throws_at.Given as goal

abbrev pub ghost-throw_turn : goal.ghost-throw_turn
ghost-throw_turn g a = g.outside
