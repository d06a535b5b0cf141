use Rattle.cb_interp.proofs.nested_turns.nested_need.Given as goal

abbrev pub ghost-make_nested_turn : goal.ghost-make_nested_turn
ghost-make_nested_turn g a = g.outside
