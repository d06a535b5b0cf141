use Rattle.cb_interp.proofs.read_turns.read_turn.Given as goal

abbrev pub ghost-byte_turn : goal.ghost-byte_turn
ghost-byte_turn g a = g.outside

abbrev pub ghost-range_turn : goal.ghost-range_turn
ghost-range_turn g a = g.outside
