use Rattle.cb_interp.proofs.load_turns.load_need.Given as goal

abbrev pub ghost-load_new : goal.ghost-load_new
ghost-load_new g a = g.outside
