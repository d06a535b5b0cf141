use Rattle.cb_interp.proofs.failed_turns.parent_failed.Given as goal

abbrev pub ghost-failed_turn : goal.ghost-failed_turn
ghost-failed_turn g a = g.outside
