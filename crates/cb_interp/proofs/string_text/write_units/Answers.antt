use Rattle.std.proofs.Common.{◌≤◌, arith, length, rules}
use Rattle.std.proofs.lemmas.Bool.{false≢true}
use Rattle.cb_heap.specs.Reading.{serial_of}
use Rattle.cb_interp.specs.Printing.{as_line, units_at}
use Rattle.cb_interp.proofs.TurnsNativeUnits.{nothing_left, written_all, written_part, written_piece}
use Rattle.cb_interp.proofs.string_text.write_units.Goals as goal

pub returns-in_err-utf8_of-clause-part : goal.returns-in_err-utf8_of-clause-part
returns-in_err-utf8_of-clause-part g c =
    let part = written_part _ _ _ _ _ _ _ _ _ c.loop-from.invariant.written c.next_piece-filled.ensures.read c.in_err-utf8_of.ensures.part in
    search (rules, part)

pub loop-from-preserved : goal.loop-from-preserved
loop-from-preserved g c =
    let rises = c.in_ok-utf8_of.ensures.cause in
    record {
      total = c.loop-from.invariant.total;
      within = c.next_piece-filled.ensures.within;
      written = written_piece _ _ _ _ _ _ _ _ _ _ c.loop-from.invariant.written c.next_piece-filled.ensures.read c.in_ok-utf8_of.ensures.all rises.never_falls
          (λ below rose. false≢true ((rises.exact below).1 rose));
    }

pub returns-clause-all : goal.returns-clause-all
returns-clause-all g c =
    let all = as_line c.args.line (units_at (g.S.Store.storage c.args.store.now).kept (serial_of (g.S.Store.storage c.args.store.now).index c.args.array)) in
    let past : length all ≤ c.loop-from.from = omega (arith, c.loop-from.invariant.total) in
    written_all _ _ _ _ _ _ c.loop-from.invariant.written (nothing_left all c.loop-from.from past)
