use Rattle.cb_interp.proofs.entry_turns.enters_first.Given as goal

abbrev pub ghost-enter_turn : goal.ghost-enter_turn
ghost-enter_turn g a = g.outside

abbrev pub ghost-throws_at : goal.ghost-throws_at
ghost-throws_at g a = g.outside
