use Rattle.cb_interp.proofs.needed_turns.outside_turn.Given as goal

abbrev pub ghost-read_turn : goal.ghost-read_turn
ghost-read_turn g a = g.outside

abbrev pub ghost-gc_turn : goal.ghost-gc_turn
ghost-gc_turn g a = g.outside

abbrev pub ghost-exit_turn : goal.ghost-exit_turn
ghost-exit_turn g a = g.outside

abbrev pub ghost-native_turn : goal.ghost-native_turn
ghost-native_turn g a = g.outside
