use Rattle.cb_runner.specs.Inner.{run_of}
use Rattle.cb_runner.proofs.Endings.{Appends-nothing, unchanged_count}
use Rattle.cb_runner.proofs.Executed.{unrun_so}
use Rattle.cb_runner.proofs.executing.run_program.Goals as goal

pub returns-in-Err-clause-runs : goal.returns-in-Err-clause-runs
returns-in-Err-clause-runs g c = rw (c.of.ensures.stop, c.of.ensures.store) (unrun_so g.I.Source.left g.I.Source.gave (run_of c.args.asked.now) c.args.program c.args.input.now (g.O.Sink.taken c.args.out.now) (Appends-nothing (g.O.Sink.taken c.args.out.now)))

pub returns-in-Err-clause-fault : goal.returns-in-Err-clause-fault
returns-in-Err-clause-fault g c = rw c.of.ensures.stop (unchanged_count _ (λ is. cc))

pub returns-in-Err-clause-read : goal.returns-in-Err-clause-read
returns-in-Err-clause-read g c = rw c.of.ensures.stop (unchanged_count _ (λ is. cc))
