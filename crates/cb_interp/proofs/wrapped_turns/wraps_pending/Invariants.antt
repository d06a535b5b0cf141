use Rattle.cb_interp.proofs.wrapped_turns.wraps_pending.Given as goal

abbrev pub ghost-wrapped_turn : goal.ghost-wrapped_turn
ghost-wrapped_turn g a = g.outside
