use Rattle.cb_interp.proofs.need_turns.new_need.Given as goal

abbrev pub ghost-make_object_turn : goal.ghost-make_object_turn
ghost-make_object_turn g a = g.outside
