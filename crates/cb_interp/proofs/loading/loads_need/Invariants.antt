use Rattle.cb_interp.proofs.loading.loads_need.Given as goal

abbrev pub ghost-load_class_need : goal.ghost-load_class_need
ghost-load_class_need g a = g.outside

abbrev pub ghost-load_need : goal.ghost-load_need
ghost-load_need g a = g.outside
