use Rattle.std.proofs.Common.{◌++◌, subst, List, ℕ}
use Rattle.std.specs.Fmt.{decimal}
use Rattle.std.specs.Prelude.{codes}
use Rattle.cb_interp.specs.Texts.{Writes}
use Rattle.cb_interp.proofs.Laws.{failed_cut, writes_then}
use Rattle.cb_runner.proofs.Told.{spent_is}
use Rattle.cb_runner.proofs.line.write_spent.Goals as goal

pub returns-in_err-write_number-clause-written : goal.returns-in_err-write_number-clause-written
returns-in_err-write_number-clause-written g c =
    let old = g.E.Sink.taken c.args.err.now in
    let new = g.E.Sink.taken c.write_number.new.err in
    subst (λ (bytes : List ℕ). Writes old new bytes c.from_residual.result) (spent_is c.args.steps)
    (failed_cut old new (codes "cbvm: budget spent after " ++ decimal c.args.steps) (codes " steps\n") c.from_residual.result c.in_err-write_number.field-0.0 c.from_residual.ensures
    c.in_err-write_number.ensures.written.part)

pub returns-clause-written : goal.returns-clause-written
returns-clause-written g c =
    let old = g.E.Sink.taken c.args.err.now in
    let mid = g.E.Sink.taken c.write_number.new.err in
    let new = g.E.Sink.taken c.write_all.new.sink in
    subst (λ (bytes : List ℕ). Writes old new bytes c.write_all.result) (spent_is c.args.steps)
    (writes_then old mid new (codes "cbvm: budget spent after " ++ decimal c.args.steps) (codes " steps\n") c.write_all.result c.in_ok-write_number.ensures.written.all
    (record { all = c.write_all.ensures.all; part = c.write_all.ensures.part }))
