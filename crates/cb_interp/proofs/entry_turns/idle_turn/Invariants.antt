use Rattle.cb_interp.proofs.entry_turns.idle_turn.Given as goal

abbrev pub ghost-starts_main : goal.ghost-starts_main
ghost-starts_main g a = g.outside
