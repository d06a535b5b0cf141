use Rattle.cb_interp.proofs.need_turns.switch_need.Given as goal

abbrev pub ghost-switch_turn : goal.ghost-switch_turn
ghost-switch_turn g a = g.outside
