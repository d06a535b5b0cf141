use Rattle.cb_runner.proofs.line.Line.write.Goals as goal

pub returns-in-Some-clause-written : goal.returns-in-Some-clause-written
returns-in-Some-clause-written g c = rw (c.in-Unhandled.is, c.in-Some.is) c.write_unhandled.ensures.written
