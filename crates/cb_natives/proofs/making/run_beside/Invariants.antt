use Rattle.cb_natives.proofs.making.run_beside.Given as goal

abbrev pub ghost-run_text : goal.ghost-run_text
ghost-run_text g a = g.asked

abbrev pub ghost-run_own : goal.ghost-run_own
ghost-run_own g a = g.asked

abbrev pub ghost-run_array : goal.ghost-run_array
ghost-run_array g a = g.asked

abbrev pub ghost-run_number : goal.ghost-run_number
ghost-run_number g a = g.asked
