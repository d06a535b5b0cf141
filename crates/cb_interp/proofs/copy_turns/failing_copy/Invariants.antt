use Rattle.cb_interp.proofs.copy_turns.failing_copy.Given as goal

abbrev pub ghost-room_for : goal.ghost-room_for
ghost-room_for g a = g.outside
