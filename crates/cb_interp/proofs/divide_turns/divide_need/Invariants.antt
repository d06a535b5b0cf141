use Rattle.cb_interp.proofs.divide_turns.divide_need.Given as goal

abbrev pub ghost-divide_known : goal.ghost-divide_known
ghost-divide_known g a = g.outside

abbrev pub ghost-divide_new : goal.ghost-divide_new
ghost-divide_new g a = g.outside
