use Rattle.std.proofs.Common.{◌≡◌, ◌+◌, drop}
use Rattle.cb_machine.specs.Answering.{begins}
use Rattle.cb_heap.specs.Reading.{serial_of}
use Rattle.cb_natives.specs.Given.{units_in}
use Rattle.cb_natives.proofs.scanning.begins_at.Given as goal

abbrev pub invariant-loop-place : goal.invariant-loop-place
invariant-loop-place g l = begins (drop l.start (units_in (g.S.Store.storage l.store).kept (serial_of (g.S.Store.storage l.store).index l.array))) (units_in (g.S.Store.storage l.store).kept (serial_of (g.S.Store.storage l.store).index l.part)) ≡ begins (drop (l.start + l.place) (units_in (g.S.Store.storage l.store).kept (serial_of (g.S.Store.storage l.store).index l.array))) (drop l.place (units_in (g.S.Store.storage l.store).kept (serial_of (g.S.Store.storage l.store).index l.part)))
