use Rattle.std.proofs.Common.{◌∙◌, ◌<◌, ap, arith, sym, subst, length, List, ℕ, OnErr, OnOk}
use Rattle.std.specs.Io.KnownBytes.{Appends}
use Rattle.cb_io.specs.Sink.{AppendsProperPrefix}
use Rattle.cb_interp.specs.Printing.{as_line}
use Rattle.cb_interp.proofs.TurnsNativeText.{line_in, text_bytes}
use Rattle.cb_interp.proofs.printing.write_text.Goals as goal

pub returns-then-line-clause-all : goal.returns-then-line-clause-all
returns-then-line-clause-all g c =
    let fits : length c.args.text.now < 21 = omega (arith, c.requires.short) in
    let is = line_in 10 21 c.args.text.now c.copy_from_slice.new.self fits c.copy_from_slice.ensures.after
    ∙ ap (λ line. as_line line c.args.text.now) (sym c.if-line.true) ∙ sym (text_bytes c.args.line c.args.text.now c.requires.ascii) in
    subst (λ (bytes : List ℕ). OnOk c.write_all.result (Appends (g.O.Sink.taken c.args.out.now) (g.O.Sink.taken c.write_all.new.sink) bytes)) is c.write_all.ensures.all

pub returns-then-line-clause-part : goal.returns-then-line-clause-part
returns-then-line-clause-part g c =
    let fits : length c.args.text.now < 21 = omega (arith, c.requires.short) in
    let is = line_in 10 21 c.args.text.now c.copy_from_slice.new.self fits c.copy_from_slice.ensures.after
    ∙ ap (λ line. as_line line c.args.text.now) (sym c.if-line.true) ∙ sym (text_bytes c.args.line c.args.text.now c.requires.ascii) in
    subst (λ (bytes : List ℕ). OnErr c.write_all.result (AppendsProperPrefix (g.O.Sink.taken c.args.out.now) (g.O.Sink.taken c.write_all.new.sink) bytes)) is c.write_all.ensures.part

pub returns-else-line-clause-all : goal.returns-else-line-clause-all
returns-else-line-clause-all g c =
    let is = ap (λ line. as_line line c.args.text.now) (sym c.if-line.false) ∙ sym (text_bytes c.args.line c.args.text.now c.requires.ascii) in
    subst (λ (bytes : List ℕ). OnOk c.write_all-else-line.result (Appends (g.O.Sink.taken c.args.out.now) (g.O.Sink.taken c.write_all-else-line.new.sink) bytes)) is c.write_all-else-line.ensures.all

pub returns-else-line-clause-part : goal.returns-else-line-clause-part
returns-else-line-clause-part g c =
    let is = ap (λ line. as_line line c.args.text.now) (sym c.if-line.false) ∙ sym (text_bytes c.args.line c.args.text.now c.requires.ascii) in
    subst (λ (bytes : List ℕ). OnErr c.write_all-else-line.result (AppendsProperPrefix (g.O.Sink.taken c.args.out.now) (g.O.Sink.taken c.write_all-else-line.new.sink) bytes)) is c.write_all-else-line.ensures.part
