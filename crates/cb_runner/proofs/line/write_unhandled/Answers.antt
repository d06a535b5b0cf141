use Rattle.std.proofs.Common.{◌≡◌, ◌∙◌, ◌++◌, ap, subst, sym, List, ℕ}
use Rattle.std.proofs.lemmas.Bool.{false≢true}
use Rattle.std.specs.Prelude.{codes}
use Rattle.cb_heap.specs.Reading.{serial_of}
use Rattle.cb_io.specs.Utf8.{utf8}
use Rattle.cb_interp.specs.Texts.{Writes}
use Rattle.cb_interp.proofs.Laws.{counts_as, counts_then, failed_cut, writes_then}
use Rattle.cb_partheap.specs.Heaps.{index_in, objects_in}
use Rattle.cb_runner.specs.Inner.{units_told}
use Rattle.cb_runner.specs.Running.{exception_line}
use Rattle.cb_runner.proofs.Told.{told_units, unhandled_is}
use Rattle.cb_runner.proofs.line.write_unhandled.Goals as goal

pub returns-in_err-write_all-clause-written : goal.returns-in_err-write_all-clause-written
returns-in_err-write_all-clause-written g c =
    let exception = c.args.exception.now in
    let heap = c.args.store.now.heap in
    let units = units_told exception.program (objects_in heap) (serial_of (index_in heap) exception.at) in
    let old = g.E.Sink.taken c.args.err.now in
    let new = g.E.Sink.taken c.write_all.new.sink in
    subst (λ (bytes : List ℕ). Writes old new bytes c.from_residual.result) (unhandled_is units)
    (failed_cut old new (codes "Exception in thread \"main\" ") (utf8 units ++ codes "\n") c.from_residual.result c.in_err-write_all.field-0.0 c.from_residual.ensures
    c.in_err-write_all.ensures.part)

pub returns-clause-written : goal.returns-clause-written
returns-clause-written g c =
    let exception = c.args.exception.now in
    let heap = c.args.store.now.heap in
    let serial = serial_of (index_in heap) exception.at in
    let (units, tells, writes) = c.write_exception.ensures.told in
    let old = g.E.Sink.taken c.args.err.now in
    let mid = g.E.Sink.taken c.write_all.new.sink in
    let new = g.E.Sink.taken c.write_exception.new.out in
    subst (λ (bytes : List ℕ). Writes old new bytes c.write_exception.result) (unhandled_is units ∙ ap exception_line (sym (told_units exception.program (objects_in heap) serial units tells)))
    (writes_then old mid new (codes "Exception in thread \"main\" ") (utf8 units ++ codes "\n") c.write_exception.result c.in_ok-write_all.ensures.all writes)

pub returns-clause-cause : goal.returns-clause-cause
returns-clause-cause g c =
    let before = g.E.Sink.faults c.args.err.now in
    let now = g.E.Sink.faults c.write_all.new.sink in
    counts_then before now (g.E.Sink.faults c.write_exception.new.out) (counts_as before now (λ is. false≢true is) (λ never. absurd never) c.in_ok-write_all.ensures.cause)
    c.write_exception.ensures.cause
