use Rattle.cb_interp.proofs.frame_turns.unwinds.Given as goal

abbrev pub ghost-unwind_turn : goal.ghost-unwind_turn
ghost-unwind_turn g a = g.outside

abbrev pub ghost-wraps_pending : goal.ghost-wraps_pending
ghost-wraps_pending g a = g.outside
