use Rattle.cb_interp.proofs.text_turns.begins_texts.Given as goal

abbrev pub ghost-throws_at : goal.ghost-throws_at
ghost-throws_at g a = g.outside

abbrev pub ghost-begins_asked : goal.ghost-begins_asked
ghost-begins_asked g a = g.outside
