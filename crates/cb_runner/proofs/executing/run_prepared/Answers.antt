use Rattle.cb_interp.proofs.Laws.{counts_as}
use Rattle.cb_runner.specs.Inner.{run_of}
use Rattle.cb_runner.proofs.Executed.{over_input_ends, over_input_stops, over_output_ends, over_output_stops}
use Rattle.cb_runner.proofs.executing.run_prepared.Goals as goal

pub returns-clause-runs : goal.returns-clause-runs
returns-clause-runs g c = c.run_from-ended.ensures.comes.runs c.stop_over-stop.result c.stop_over-stop.ensures

pub returns-clause-fault : goal.returns-clause-fault
returns-clause-fault g c =
    let asks = run_of c.args.asked.now in
    let store = c.run_from-ended.new.store in
    counts_as (g.O.Sink.faults c.args.out.now) (g.O.Sink.faults c.run_from-ended.new.out)
    (over_output_stops asks c.args.program store c.run_from-ended.result c.stop_over-stop.result c.stop_over-stop.ensures)
    (over_output_ends asks c.args.program store c.run_from-ended.result c.stop_over-stop.result c.stop_over-stop.ensures) c.run_from-ended.ensures.fault

pub returns-clause-read : goal.returns-clause-read
returns-clause-read g c =
    let asks = run_of c.args.asked.now in
    let store = c.run_from-ended.new.store in
    counts_as (g.I.Source.faults c.args.input.now) (g.I.Source.faults c.run_from-ended.new.input)
    (over_input_stops asks c.args.program store c.run_from-ended.result c.stop_over-stop.result c.stop_over-stop.ensures)
    (over_input_ends asks c.args.program store c.run_from-ended.result c.stop_over-stop.result c.stop_over-stop.ensures) c.run_from-ended.ensures.read
