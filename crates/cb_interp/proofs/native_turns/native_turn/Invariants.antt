use Rattle.cb_interp.proofs.native_turns.native_turn.Given as goal

abbrev pub ghost-string_turn : goal.ghost-string_turn
ghost-string_turn g a = g.outside
