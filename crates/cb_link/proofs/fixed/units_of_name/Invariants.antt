use Rattle.std.proofs.Common.{◌≡◌, take}
use Rattle.cb_link.proofs.fixed.units_of_name.Given as goal

abbrev pub invariant-loop-byte : goal.invariant-loop-byte
invariant-loop-byte l = l.units.items ≡ take l.byte-index l.bytes
