use Rattle.std.proofs.Common.{◌++◌, ◌∙◌, ap, subst, true, List, ℕ}
use Rattle.std.specs.Prelude.{codes}
use Rattle.cb_heap.specs.Reading.{serial_of}
use Rattle.cb_io.specs.Utf8.{utf8}
use Rattle.cb_interp.specs.Printing.{array_of, as_line, units_at}
use Rattle.cb_interp.specs.Texts.{Writes}
use Rattle.cb_interp.proofs.TextReading.{failed_cut, not_zero, null_line, string_line, writes_then}
use Rattle.cb_interp.proofs.texts.write_message.Goals as goal

pub returns-then-at-eq0-clause-written : goal.returns-then-at-eq0-clause-written
returns-then-at-eq0-clause-written g c =
    subst (λ (bytes : List ℕ). Writes (g.O.Sink.taken c.args.out.now) (g.O.Sink.taken c.write_text.new.out) bytes c.write_text.result)
    (null_line (g.S.Store.storage c.args.store.now).index (g.S.Store.storage c.args.store.now).kept c.args.at c.if-at-eq0.true)
    (record { all = c.write_text.ensures.all; part = c.write_text.ensures.part })

pub returns-in_err-write_all-clause-written : goal.returns-in_err-write_all-clause-written
returns-in_err-write_all-clause-written g c =
    let objects = (g.S.Store.storage c.args.store.now).kept in
    let index = (g.S.Store.storage c.args.store.now).index in
    let old = g.O.Sink.taken c.args.out.now in
    let new = g.O.Sink.taken c.write_all.new.sink in
    subst (λ (bytes : List ℕ). Writes old new bytes c.from_residual.result) (string_line index objects c.args.at c.if-at-eq0.false)
    (failed_cut old new (codes ": ") (utf8 (as_line true (units_at objects (array_of objects (serial_of index c.args.at))))) c.from_residual.result c.in_err-write_all.field-0.0
    c.from_residual.ensures c.in_err-write_all.ensures.part)

pub returns-clause-written : goal.returns-clause-written
returns-clause-written g c =
    let objects = (g.S.Store.storage c.args.store.now).kept in
    let index = (g.S.Store.storage c.args.store.now).index in
    let old = g.O.Sink.taken c.args.out.now in
    let mid = g.O.Sink.taken c.write_all.new.sink in
    let new = g.O.Sink.taken c.write_units.new.out in
    let array = serial_of index c.chars_of-array.result in
    subst (λ (bytes : List ℕ). Writes old new bytes c.write_units.result)
    (ap (λ (array : ℕ). codes ": " ++ utf8 (as_line true (units_at objects array))) (c.chars_of-array.ensures.same (not_zero index c.args.at c.if-at-eq0.false))
    ∙ string_line index objects c.args.at c.if-at-eq0.false)
    (writes_then old mid new (codes ": ") (utf8 (as_line true (units_at objects array))) c.write_units.result c.in_ok-write_all.ensures.all
    (record { all = c.write_units.ensures.all; part = c.write_units.ensures.part }))
