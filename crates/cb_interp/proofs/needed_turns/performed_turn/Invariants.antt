use Rattle.cb_interp.proofs.needed_turns.performed_turn.Given as goal

abbrev pub ghost-perform_turn : goal.ghost-perform_turn
ghost-perform_turn g a = g.outside

abbrev pub ghost-array_turn : goal.ghost-array_turn
ghost-array_turn g a = g.outside

abbrev pub ghost-outside_turn : goal.ghost-outside_turn
ghost-outside_turn g a = g.outside

abbrev pub ghost-answering_turn : goal.ghost-answering_turn
ghost-answering_turn g a = g.outside
