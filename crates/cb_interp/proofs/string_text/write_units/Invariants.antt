use Rattle.std.proofs.Common.{◌≡◌, ◌≤◌, ◌-◌, drop, length}
use Rattle.cb_heap.specs.Reading.{serial_of}
use Rattle.cb_io.specs.Utf8.{utf8}
use Rattle.cb_interp.specs.Printing.{as_line, units_at}
use Rattle.cb_interp.proofs.TurnsNativeUnits.{Written}
use Rattle.cb_interp.proofs.string_text.write_units.Given as goal

abbrev pub invariant-loop-from : goal.invariant-loop-from
invariant-loop-from g l = record {
  total : l.total ≡ length (as_line l.line (units_at (g.S.Store.storage l.store).kept (serial_of (g.S.Store.storage l.store).index l.array)));
  within : l.from ≤ l.total;
  written : Written (g.O.Sink.taken l.fn.out) (g.O.Sink.taken l.out) (g.O.Sink.faults l.fn.out) (g.O.Sink.faults l.out)
      (utf8 (as_line l.line (units_at (g.S.Store.storage l.store).kept (serial_of (g.S.Store.storage l.store).index l.array))))
      (utf8 (drop l.from (as_line l.line (units_at (g.S.Store.storage l.store).kept (serial_of (g.S.Store.storage l.store).index l.array)))));
}

abbrev pub decreases-loop-from : goal.decreases-loop-from
decreases-loop-from g l = l.total - l.from
