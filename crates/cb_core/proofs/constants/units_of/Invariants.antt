use Rattle.std.proofs.Common.{◌≡◌, take}
use Rattle.cb_core.proofs.constants.units_of.Given as goal

abbrev pub invariant-loop-byte : goal.invariant-loop-byte
invariant-loop-byte l = l.units ≡ take l.byte-index l.bytes
