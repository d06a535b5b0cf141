use Rattle.cb_interp.proofs.text_turns.begins_asked.Given as goal

abbrev pub ghost-ask_own : goal.ghost-ask_own
ghost-ask_own g a = g.outside

abbrev pub ghost-begin_placed : goal.ghost-begin_placed
ghost-begin_placed g a = g.outside
