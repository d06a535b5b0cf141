use Rattle.std.proofs.Common.{◌++◌, ap, map, refl}
use Rattle.std.proofs.lemmas.Bool.{false≢true}
use Rattle.std.specs.Prelude.{codes}
use Rattle.cb_io.specs.Utf8.{utf8}
use Rattle.cb_interp.specs.Texts.{dotted}
use Rattle.cb_interp.proofs.TextReading.{failed_rest, name_piece, writes_whole}
use Rattle.cb_interp.proofs.TurnsNativeUnits.{Written, written_piece}
use Rattle.cb_interp.proofs.texts.write_name.Goals as goal

pub returns-in_err-utf8_of-clause-written : goal.returns-in_err-utf8_of-clause-written
returns-in_err-utf8_of-clause-written g c =
    let rest = c.loop-front.rest.now in
    let front = c.in-Some.front.now in
    let behind = c.in-Some.behind.now in
    failed_rest (g.O.Sink.taken c.args.out.now) (g.O.Sink.taken c.loop-front.out) (g.O.Sink.taken c.utf8_of.new.sink) (g.O.Sink.faults c.args.out.now) (g.O.Sink.faults c.loop-front.out)
    (utf8 (map dotted c.args.name.now)) (utf8 (map dotted rest)) (utf8 front) (codes "." ++ utf8 (map dotted behind)) c.from_residual.result c.in_err-utf8_of.field-0.0 c.loop-front.invariant
    (name_piece rest front behind c.in-Some.ensures.cut) c.from_residual.ensures c.in_err-utf8_of.ensures.part

pub returns-in_err-write_all-clause-written : goal.returns-in_err-write_all-clause-written
returns-in_err-write_all-clause-written g c =
    let rest = c.loop-front.rest.now in
    let front = c.in-Some.front.now in
    let behind = c.in-Some.behind.now in
    let old = g.O.Sink.taken c.args.out.now in
    let mid = g.O.Sink.taken c.utf8_of.new.sink in
    let bytes = utf8 (map dotted c.args.name.now) in
    let later = codes "." ++ utf8 (map dotted behind) in
    let rises = c.in_ok-utf8_of.ensures.cause in
    let so_far : Written old mid (g.O.Sink.faults c.args.out.now) (g.O.Sink.faults c.utf8_of.new.sink) bytes later =
    written_piece old (g.O.Sink.taken c.loop-front.out) mid (g.O.Sink.faults c.args.out.now) (g.O.Sink.faults c.loop-front.out) (g.O.Sink.faults c.utf8_of.new.sink) bytes (utf8 (map dotted rest))
    (utf8 front) later c.loop-front.invariant (name_piece rest front behind c.in-Some.ensures.cut) c.in_ok-utf8_of.ensures.all rises.never_falls
    (λ below rose. false≢true ((rises.exact below).1 rose)) in
    failed_rest old mid (g.O.Sink.taken c.write_all.new.sink) (g.O.Sink.faults c.args.out.now) (g.O.Sink.faults c.utf8_of.new.sink) bytes later (codes ".") (utf8 (map dotted behind))
    c.from_residual-in_err-write_all.result c.in_err-write_all.field-0.0 so_far refl c.from_residual-in_err-write_all.ensures c.in_err-write_all.ensures.part

pub loop-front-preserved : goal.loop-front-preserved
loop-front-preserved g c =
    let rest = c.loop-front.rest.now in
    let front = c.in-Some.front.now in
    let behind = c.in-Some.behind.now in
    let old = g.O.Sink.taken c.args.out.now in
    let mid = g.O.Sink.taken c.utf8_of.new.sink in
    let first = g.O.Sink.faults c.args.out.now in
    let bytes = utf8 (map dotted c.args.name.now) in
    let later = codes "." ++ utf8 (map dotted behind) in
    let rises = c.in_ok-utf8_of.ensures.cause in
    let more = c.in_ok-write_all.ensures.cause in
    let so_far : Written old mid first (g.O.Sink.faults c.utf8_of.new.sink) bytes later =
    written_piece old (g.O.Sink.taken c.loop-front.out) mid first (g.O.Sink.faults c.loop-front.out) (g.O.Sink.faults c.utf8_of.new.sink) bytes (utf8 (map dotted rest)) (utf8 front) later
    c.loop-front.invariant (name_piece rest front behind c.in-Some.ensures.cut) c.in_ok-utf8_of.ensures.all rises.never_falls (λ below rose. false≢true ((rises.exact below).1 rose)) in
    written_piece old mid (g.O.Sink.taken c.write_all.new.sink) first (g.O.Sink.faults c.utf8_of.new.sink) (g.O.Sink.faults c.write_all.new.sink) bytes later (codes ".") (utf8 (map dotted behind))
    so_far refl c.in_ok-write_all.ensures.all more.never_falls (λ below rose. false≢true ((more.exact below).1 rose))

pub returns-clause-written : goal.returns-clause-written
returns-clause-written g c =
    writes_whole (g.O.Sink.taken c.args.out.now) (g.O.Sink.taken c.loop-front.out) (g.O.Sink.taken c.utf8_of-2.new.sink) (g.O.Sink.faults c.args.out.now) (g.O.Sink.faults c.loop-front.out)
    (utf8 (map dotted c.args.name.now)) (utf8 (map dotted c.loop-front.rest.now)) (utf8 c.loop-front.rest.now) c.utf8_of-2.result c.loop-front.invariant
    (ap utf8 c.in_default.ensures.plain) (record { all = c.utf8_of-2.ensures.all; part = c.utf8_of-2.ensures.part })
