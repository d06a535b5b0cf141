use Rattle.cb_interp.proofs.copy_turns.copy_turn.Given as goal

abbrev pub ghost-failing_copy : goal.ghost-failing_copy
ghost-failing_copy g a = g.outside
