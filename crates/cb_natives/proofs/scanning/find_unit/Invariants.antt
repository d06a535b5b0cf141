use Rattle.std.proofs.Common.{◌≡◌, ◌<◌, ℕ, pos, get_or}
use Rattle.cb_heap.specs.Reading.{serial_of}
use Rattle.cb_natives.specs.Given.{units_in}
use Rattle.cb_natives.proofs.scanning.find_unit.Given as goal

abbrev pub invariant-loop-place : goal.invariant-loop-place
invariant-loop-place g l = (k : ℕ) → k < l.place → pos (get_or (units_in (g.S.Store.storage l.store).kept (serial_of (g.S.Store.storage l.store).index l.array)) k 0) ≡ l.wanted → ⊥
