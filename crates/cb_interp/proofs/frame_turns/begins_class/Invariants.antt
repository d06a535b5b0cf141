use Rattle.cb_interp.proofs.frame_turns.begins_class.Given as goal

abbrev pub ghost-begins_numbers : goal.ghost-begins_numbers
ghost-begins_numbers g a = g.outside

abbrev pub ghost-begins_texts : goal.ghost-begins_texts
ghost-begins_texts g a = g.outside
