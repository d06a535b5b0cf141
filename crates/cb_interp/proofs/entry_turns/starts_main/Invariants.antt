use Rattle.cb_interp.proofs.entry_turns.starts_main.Given as goal

abbrev pub ghost-begins_class : goal.ghost-begins_class
ghost-begins_class g a = g.outside

abbrev pub ghost-throws_at : goal.ghost-throws_at
ghost-throws_at g a = g.outside

abbrev pub ghost-enters_main : goal.ghost-enters_main
ghost-enters_main g a = g.outside
