use Rattle.cb_interp.proofs.turn.method_turn.Given as goal

abbrev pub ghost-act_turn : goal.ghost-act_turn
ghost-act_turn g a = g.outside

abbrev pub ghost-needed_turn : goal.ghost-needed_turn
ghost-needed_turn g a = g.outside
