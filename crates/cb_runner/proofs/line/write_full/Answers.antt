use Rattle.std.proofs.Common.{◌++◌, subst, List, ℕ}
use Rattle.std.specs.Fmt.{decimal}
use Rattle.std.specs.Prelude.{codes}
use Rattle.cb_io.proofs.Laws.{Appends-Appends}
use Rattle.cb_interp.specs.Texts.{Writes}
use Rattle.cb_interp.proofs.Laws.{failed_in, failed_more, writes_then}
use Rattle.cb_runner.proofs.Told.{full_is}
use Rattle.cb_runner.proofs.line.write_full.Goals as goal

pub returns-in_err-write_number-clause-written : goal.returns-in_err-write_number-clause-written
returns-in_err-write_number-clause-written g c =
    let old = g.E.Sink.taken c.args.err.now in
    let new = g.E.Sink.taken c.write_number.new.err in
    let first = codes "cbvm: heap full " ++ decimal c.args.live in
    let second = codes " live " ++ decimal c.args.asked in
    let third = codes " asked " ++ decimal c.args.limit in
    let result = c.from_residual.result in
    let failed = c.from_residual.ensures in
    subst (λ (bytes : List ℕ). Writes old new bytes result) (full_is c.args.live c.args.asked c.args.limit)
    (failed_more old new ((first ++ second) ++ third) (codes " allowed\n") result failed.0
    (failed_more old new (first ++ second) third result failed.0
    (failed_more old new first second result failed.0 (failed_in old new first result c.in_err-write_number.field-0.0 failed c.in_err-write_number.ensures.written.part))))

pub returns-in_err-write_number-2-clause-written : goal.returns-in_err-write_number-2-clause-written
returns-in_err-write_number-2-clause-written g c =
    let old = g.E.Sink.taken c.args.err.now in
    let mid = g.E.Sink.taken c.write_number.new.err in
    let new = g.E.Sink.taken c.write_number-2.new.err in
    let first = codes "cbvm: heap full " ++ decimal c.args.live in
    let second = codes " live " ++ decimal c.args.asked in
    let third = codes " asked " ++ decimal c.args.limit in
    let result = c.from_residual-in_err-write_number-2.result in
    let failed = c.from_residual-in_err-write_number-2.ensures in
    subst (λ (bytes : List ℕ). Writes old new bytes result) (full_is c.args.live c.args.asked c.args.limit)
    (failed_more old new ((first ++ second) ++ third) (codes " allowed\n") result failed.0
    (failed_more old new (first ++ second) third result failed.0
    (writes_then old mid new first second result c.in_ok-write_number.ensures.written.all
    (failed_in mid new second result c.in_err-write_number-2.field-0.0 failed c.in_err-write_number-2.ensures.written.part))))

pub returns-in_err-write_number-3-clause-written : goal.returns-in_err-write_number-3-clause-written
returns-in_err-write_number-3-clause-written g c =
    let old = g.E.Sink.taken c.args.err.now in
    let one = g.E.Sink.taken c.write_number.new.err in
    let two = g.E.Sink.taken c.write_number-2.new.err in
    let new = g.E.Sink.taken c.write_number-3.new.err in
    let first = codes "cbvm: heap full " ++ decimal c.args.live in
    let second = codes " live " ++ decimal c.args.asked in
    let third = codes " asked " ++ decimal c.args.limit in
    let result = c.from_residual-in_err-write_number-3.result in
    let failed = c.from_residual-in_err-write_number-3.ensures in
    subst (λ (bytes : List ℕ). Writes old new bytes result) (full_is c.args.live c.args.asked c.args.limit)
    (failed_more old new ((first ++ second) ++ third) (codes " allowed\n") result failed.0
    (writes_then old two new (first ++ second) third result
    (Appends-Appends old one two first second c.in_ok-write_number.ensures.written.all c.in_ok-write_number-2.ensures.written.all)
    (failed_in two new third result c.in_err-write_number-3.field-0.0 failed c.in_err-write_number-3.ensures.written.part)))

pub returns-clause-written : goal.returns-clause-written
returns-clause-written g c =
    let old = g.E.Sink.taken c.args.err.now in
    let one = g.E.Sink.taken c.write_number.new.err in
    let two = g.E.Sink.taken c.write_number-2.new.err in
    let three = g.E.Sink.taken c.write_number-3.new.err in
    let new = g.E.Sink.taken c.write_all.new.sink in
    let first = codes "cbvm: heap full " ++ decimal c.args.live in
    let second = codes " live " ++ decimal c.args.asked in
    let third = codes " asked " ++ decimal c.args.limit in
    subst (λ (bytes : List ℕ). Writes old new bytes c.write_all.result) (full_is c.args.live c.args.asked c.args.limit)
    (writes_then old three new ((first ++ second) ++ third) (codes " allowed\n") c.write_all.result
    (Appends-Appends old two three (first ++ second) third
    (Appends-Appends old one two first second c.in_ok-write_number.ensures.written.all c.in_ok-write_number-2.ensures.written.all) c.in_ok-write_number-3.ensures.written.all)
    (record { all = c.write_all.ensures.all; part = c.write_all.ensures.part }))
