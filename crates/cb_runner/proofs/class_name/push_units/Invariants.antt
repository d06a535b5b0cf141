use Rattle.std.proofs.Common.{◌≡◌, ◌++◌, take}
use Rattle.cb_runner.proofs.class_name.push_units.Given as goal

abbrev pub invariant-loop-unit : goal.invariant-loop-unit
invariant-loop-unit l = l.name ≡ l.fn.name ++ take l.unit-index l.unit-items
