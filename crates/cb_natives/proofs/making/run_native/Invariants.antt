use Rattle.cb_natives.proofs.making.run_native.Given as goal

abbrev pub ghost-run_kept : goal.ghost-run_kept
ghost-run_kept g a = g.asked.1

abbrev pub ghost-run_beside : goal.ghost-run_beside
ghost-run_beside g a = g.asked
