use Rattle.std.proofs.Common.{◌≡◌, drop}
use Rattle.cb_heap.specs.Reading.{serial_of}
use Rattle.cb_kinds.specs.Texts.{same_text}
use Rattle.cb_natives.specs.Given.{units_in}
use Rattle.cb_natives.proofs.enums.same_name.Given as goal

abbrev pub invariant-loop-place : goal.invariant-loop-place
invariant-loop-place g l =
    same_text l.name (units_in (g.S.Store.storage l.store).kept (serial_of (g.S.Store.storage l.store).index l.array))
    ≡ same_text (drop l.place l.name) (drop l.place (units_in (g.S.Store.storage l.store).kept (serial_of (g.S.Store.storage l.store).index l.array)))
