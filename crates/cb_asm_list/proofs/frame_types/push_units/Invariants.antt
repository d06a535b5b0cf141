use Rattle.std.proofs.Common.{◌≡◌, ◌++◌, take}
use Rattle.cb_asm_list.proofs.frame_types.push_units.Given as goal

abbrev pub invariant-loop-unit : goal.invariant-loop-unit
invariant-loop-unit l = l.units ≡ l.initial.units ++ take l.unit-index l.more
