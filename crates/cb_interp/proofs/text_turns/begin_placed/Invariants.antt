use Rattle.cb_interp.proofs.text_turns.begin_placed.Given as goal

abbrev pub ghost-place_own : goal.ghost-place_own
ghost-place_own g a = g.outside
