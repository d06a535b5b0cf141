use Rattle.cb_interp.proofs.answer_turns.answer_turn.Given as goal

abbrev pub ghost-divide_need : goal.ghost-divide_need
ghost-divide_need g a = g.outside

abbrev pub ghost-throw_of : goal.ghost-throw_of
ghost-throw_of g a = g.outside
