use Rattle.cb_interp.proofs.need_turns.array_need.Given as goal

abbrev pub ghost-make_array_turn : goal.ghost-make_array_turn
ghost-make_array_turn g a = g.outside
