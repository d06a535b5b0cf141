use Rattle.cb_interp.proofs.needed_turns.array_turn.Given as goal

abbrev pub ghost-copy_turn : goal.ghost-copy_turn
ghost-copy_turn g a = g.outside

abbrev pub ghost-perform_turn : goal.ghost-perform_turn
ghost-perform_turn g a = g.outside
