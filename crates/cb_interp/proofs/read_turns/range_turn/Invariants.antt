use Rattle.cb_interp.proofs.read_turns.range_turn.Given as goal

abbrev pub ghost-in_range_turn : goal.ghost-in_range_turn
ghost-in_range_turn g a = g.outside

abbrev pub ghost-throw_of : goal.ghost-throw_of
ghost-throw_of g a = g.outside
