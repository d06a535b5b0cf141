use Rattle.std.proofs.Common.{◌≡◌, ◌≤◌, ◌^◌, drop}
use Rattle.cb_heap.specs.Reading.{serial_of}
use Rattle.cb_natives.specs.Given.{units_in}
use Rattle.cb_machine.specs.Answering.{read_digits, read_some}
use Rattle.cb_natives.specs.Parsing.{at_most}
use Rattle.cb_natives.proofs.parsing.digits_at.Given as goal

abbrev pub invariant-loop-place : goal.invariant-loop-place
invariant-loop-place g l = (l.sum ≤ 2 ^ 63) × (at_most (read_some (drop l.start (units_in (g.S.Store.storage l.store).kept (serial_of (g.S.Store.storage l.store).index l.array)))) ≡ at_most (read_digits l.sum (drop l.place (units_in (g.S.Store.storage l.store).kept (serial_of (g.S.Store.storage l.store).index l.array)))))
