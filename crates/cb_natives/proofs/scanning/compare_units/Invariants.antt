use Rattle.std.proofs.Common.{◌≡◌, drop}
use Rattle.cb_machine.specs.Answering.{compared}
use Rattle.cb_heap.specs.Reading.{serial_of}
use Rattle.cb_natives.specs.Given.{units_in}
use Rattle.cb_natives.proofs.scanning.compare_units.Given as goal

abbrev pub invariant-loop-place : goal.invariant-loop-place
invariant-loop-place g l = compared (units_in (g.S.Store.storage l.store).kept (serial_of (g.S.Store.storage l.store).index l.one)) (units_in (g.S.Store.storage l.store).kept (serial_of (g.S.Store.storage l.store).index l.other)) ≡ compared (drop l.place (units_in (g.S.Store.storage l.store).kept (serial_of (g.S.Store.storage l.store).index l.one))) (drop l.place (units_in (g.S.Store.storage l.store).kept (serial_of (g.S.Store.storage l.store).index l.other)))
