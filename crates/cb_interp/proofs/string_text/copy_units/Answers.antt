use Rattle.std.proofs.Common.{◌≡◌, ◌<◌, ◌+◌, arith, drop, length, subst, take}
use Rattle.cb_heap.specs.Reading.{serial_of}
use Rattle.cb_interp.specs.Printing.{as_line, units_at}
use Rattle.cb_interp.proofs.TurnsNativeUnits.{more_copied}
use Rattle.cb_interp.proofs.string_text.copy_units.Goals as goal

pub loop-index-preserved : goal.loop-index-preserved
loop-index-preserved g c =
    let all = as_line c.args.line (units_at (g.S.Store.storage c.args.store.now).kept (serial_of (g.S.Store.storage c.args.store.now).index c.args.array)) in
    let low : c.loop-index.index < length c.loop-index.piece = omega (arith, c.requires.few) in
    let within : c.args.from + c.loop-index.index < length all = omega (arith, c.requires.within) in
    more_copied all c.loop-index.piece c.args.from c.loop-index.index c.text_unit.result low (c.text_unit.ensures c.args.line within) c.loop-index.invariant

pub returns : goal.returns
returns g c =
    let all = as_line c.args.line (units_at (g.S.Store.storage c.args.store.now).kept (serial_of (g.S.Store.storage c.args.store.now).index c.args.array)) in
    let end : c.loop-index.index ≡ c.args.copied = omega arith in
    subst (λ count. take count c.loop-index.piece ≡ take count (drop c.args.from all)) end c.loop-index.invariant
