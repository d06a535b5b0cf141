use Rattle.cb_interp.proofs.need_turns.throw_need.Given as goal

abbrev pub ghost-throw_of : goal.ghost-throw_of
ghost-throw_of g a = g.outside
