use Rattle.cb_runner.proofs.Begun.{first_of}
use Rattle.cb_runner.proofs.executing.run_on.Given as goal

abbrev pub ghost-run : goal.ghost-run
ghost-run g a = first_of a.store.now a.roots.now.roots
