use Rattle.cb_interp.proofs.needed_turns.needed_turn.Given as goal

abbrev pub ghost-need_turn : goal.ghost-need_turn
ghost-need_turn g a = g.outside

abbrev pub ghost-performed_turn : goal.ghost-performed_turn
ghost-performed_turn g a = g.outside
