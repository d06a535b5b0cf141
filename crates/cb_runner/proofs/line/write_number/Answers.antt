use Rattle.std.specs.Fmt.{decimal}
use Rattle.cb_interp.proofs.Laws.{failed_cut}
use Rattle.cb_runner.proofs.line.write_number.Goals as goal

pub returns-in_err-write_all-clause-written : goal.returns-in_err-write_all-clause-written
returns-in_err-write_all-clause-written g c =
    failed_cut (g.E.Sink.taken c.args.err.now) (g.E.Sink.taken c.write_all.new.sink) c.args.text.now (decimal c.args.number) c.from_residual.result c.in_err-write_all.field-0.0
    c.from_residual.ensures c.in_err-write_all.ensures.part
