use Rattle.std.proofs.Common.{◌≡◌, drop, take}
use Rattle.cb_heap.specs.Reading.{serial_of}
use Rattle.cb_interp.specs.Printing.{as_line, units_at}
use Rattle.cb_interp.proofs.string_text.copy_units.Given as goal

abbrev pub invariant-loop-index : goal.invariant-loop-index
invariant-loop-index g l =
    take l.index l.piece ≡ take l.index (drop l.from (as_line l.line (units_at (g.S.Store.storage l.store).kept (serial_of (g.S.Store.storage l.store).index l.array))))
