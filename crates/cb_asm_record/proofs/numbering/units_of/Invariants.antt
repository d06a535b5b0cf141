use Rattle.std.proofs.Common.{◌≡◌, take}
use Rattle.cb_asm_record.proofs.numbering.units_of.Given as goal

abbrev pub invariant-loop-unit : goal.invariant-loop-unit
invariant-loop-unit l = l.units ≡ take l.unit-index l.text
