use Rattle.std.proofs.Common.{◌≡◌, take}
use Rattle.cb_link.proofs.units.units_of.Given as goal

abbrev pub invariant-loop-unit : goal.invariant-loop-unit
invariant-loop-unit l = l.units ≡ take l.unit-index l.name
