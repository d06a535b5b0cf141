use Rattle.std.proofs.Common.{◌≡◌, ℤ, pos, drop, w32}
use Rattle.std.specs.Int.{int_wrap}
use Rattle.cb_natives.proofs.UnitLaws.{hash_from}
use Rattle.cb_heap.specs.Reading.{serial_of}
use Rattle.cb_natives.specs.Given.{units_in}
use Rattle.cb_natives.proofs.scanning.hash_of_units.Given as goal

abbrev pub invariant-loop-place : goal.invariant-loop-place
invariant-loop-place g l = (before : ℤ) × (l.sum ≡ int_wrap w32 before) × (hash_from (pos 0) (units_in (g.S.Store.storage l.store).kept (serial_of (g.S.Store.storage l.store).index l.array)) ≡ hash_from before (drop l.place (units_in (g.S.Store.storage l.store).kept (serial_of (g.S.Store.storage l.store).index l.array))))
