use Rattle.cb_interp.proofs.perform_turns.perform.Given as goal

abbrev pub ghost-run_native : goal.ghost-run_native
ghost-run_native g a = g.asked
