use Rattle.cb_interp.proofs.need_turns.throw_of.Given as goal

abbrev pub ghost-throw_turn : goal.ghost-throw_turn
ghost-throw_turn g a = g.outside
