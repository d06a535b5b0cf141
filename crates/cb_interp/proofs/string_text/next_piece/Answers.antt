use Rattle.std.proofs.Common.{◌≡◌, ◌+◌, ◌-◌, ◌≤◌, arith, drop, length}
use Rattle.std.proofs.lemmas.Bool.{eqb-true}
use Rattle.std.proofs.lemmas.List.{drop_all}
use Rattle.cb_heap.specs.Reading.{serial_of}
use Rattle.cb_interp.specs.Printing.{as_line, units_at}
use Rattle.cb_interp.proofs.TurnsNativeUnits.{piece_so}
use Rattle.cb_interp.proofs.string_text.next_piece.Goals as goal
use Rattle.cb_interp.proofs.string_text.next_piece.Goals.{then-left-lt-PIECE, else-left-lt-PIECE}

pub returns-clause-read : goal.returns-clause-read
returns-clause-read g c =
    let all = as_line c.args.line (units_at (g.S.Store.storage c.args.store.now).kept (serial_of (g.S.Store.storage c.args.store.now).index c.args.array)) in
    let fits : c.if-left-lt-PIECE.copied ≤ length c.copy_units.new.piece =
    elim c.if-left-lt-PIECE.branch [ then-left-lt-PIECE w ↦ omega arith | else-left-lt-PIECE w ↦ omega arith ] in
    let within : c.args.from + c.if-left-lt-PIECE.copied ≤ length all =
    elim c.if-left-lt-PIECE.branch [ then-left-lt-PIECE w ↦ omega (arith, c.requires.total) | else-left-lt-PIECE w ↦ omega (arith, c.requires.total) ] in
    piece_so all c.copy_units.new.piece c.args.from c.if-left-lt-PIECE.copied c.whole_front.result c.copy_units.ensures fits within c.whole_front.ensures.few
    (c.whole_front.ensures.cut (drop (c.args.from + c.if-left-lt-PIECE.copied) all)
    (λ ends.
    let same : c.if-left-lt-PIECE.copied ≡ c.args.total - c.args.from = eqb-true c.if-left-lt-PIECE.copied (c.args.total - c.args.from) ends in
    let past : length all ≤ c.args.from + c.if-left-lt-PIECE.copied = omega (arith, same, c.requires.total, c.requires.within) in
    drop_all (c.args.from + c.if-left-lt-PIECE.copied) all past))
