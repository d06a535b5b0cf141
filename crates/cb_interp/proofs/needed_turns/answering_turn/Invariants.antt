use Rattle.cb_interp.proofs.needed_turns.answering_turn.Given as goal

abbrev pub ghost-enum_turn : goal.ghost-enum_turn
ghost-enum_turn g a = g.outside

abbrev pub ghost-answer_turn : goal.ghost-answer_turn
ghost-answer_turn g a = g.outside
