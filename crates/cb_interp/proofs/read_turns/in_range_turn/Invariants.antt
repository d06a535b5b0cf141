use Rattle.cb_interp.proofs.read_turns.in_range_turn.Given as goal

abbrev pub ghost-empty_turn : goal.ghost-empty_turn
ghost-empty_turn g a = g.outside

abbrev pub ghost-fill_turn : goal.ghost-fill_turn
ghost-fill_turn g a = g.outside
