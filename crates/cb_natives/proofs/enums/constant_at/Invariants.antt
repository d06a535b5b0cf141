use Rattle.std.proofs.Common.{◌≡◌, drop}
use Rattle.std.specs.List.{find}
use Rattle.cb_heap.specs.Reading.{serial_of}
use Rattle.cb_link.specs.Slots.{enum_statics, static_at}
use Rattle.cb_machine.specs.Enums.{constant_named, has_name}
use Rattle.cb_natives.specs.Given.{units_in}
use Rattle.cb_natives.proofs.enums.constant_at.Given as goal

abbrev pub invariant-loop-place : goal.invariant-loop-place
invariant-loop-place g l =
    let units = units_in (g.S.Store.storage l.store).kept (serial_of (g.S.Store.storage l.store).index l.array) in
    constant_named l.program l.class units ≡ find (λ slot. has_name units (static_at l.program slot)) (drop l.place (enum_statics l.program.classes l.class))
