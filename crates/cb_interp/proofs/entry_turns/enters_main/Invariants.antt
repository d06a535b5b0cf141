use Rattle.cb_interp.proofs.entry_turns.enters_main.Given as goal

abbrev pub ghost-enters_first : goal.ghost-enters_first
ghost-enters_first g a = g.outside
