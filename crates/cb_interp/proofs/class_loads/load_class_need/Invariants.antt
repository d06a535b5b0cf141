use Rattle.cb_interp.proofs.class_loads.load_class_need.Given as goal

abbrev pub ghost-load_class_new : goal.ghost-load_class_new
ghost-load_class_new g a = g.outside
