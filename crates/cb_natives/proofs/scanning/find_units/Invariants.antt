use Rattle.std.proofs.Common.{◌≡◌, drop}
use Rattle.cb_machine.specs.Answering.{found_from}
use Rattle.cb_heap.specs.Reading.{serial_of}
use Rattle.cb_natives.specs.Given.{units_in}
use Rattle.cb_natives.proofs.scanning.find_units.Given as goal

abbrev pub invariant-loop-place : goal.invariant-loop-place
invariant-loop-place g l = found_from 0 (units_in (g.S.Store.storage l.store).kept (serial_of (g.S.Store.storage l.store).index l.array)) (units_in (g.S.Store.storage l.store).kept (serial_of (g.S.Store.storage l.store).index l.part)) ≡ found_from l.place (drop l.place (units_in (g.S.Store.storage l.store).kept (serial_of (g.S.Store.storage l.store).index l.array))) (units_in (g.S.Store.storage l.store).kept (serial_of (g.S.Store.storage l.store).index l.part))
