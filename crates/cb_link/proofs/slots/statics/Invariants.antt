use Rattle.std.proofs.Common.{◌≡◌, ◌≤◌, length, take}
use Rattle.cb_link.specs.InnerCounts.{statics_in}
use Rattle.cb_link.proofs.slots.statics.Given as goal

abbrev pub invariant-loop-number : goal.invariant-loop-number
invariant-loop-number l = (l.numbers ≡ statics_in (take l.number l.fields)) × (length l.numbers ≤ l.number)
