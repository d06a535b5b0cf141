use Rattle.cb_interp.proofs.frame_turns.begins_numbers.Given as goal

abbrev pub ghost-begin_turn : goal.ghost-begin_turn
ghost-begin_turn g a = g.outside

abbrev pub ghost-throws_at : goal.ghost-throws_at
ghost-throws_at g a = g.outside
