use Rattle.std.proofs.Common.{◌≡◌, ◌↔◌, false, take}
use Rattle.std.specs.List.{AllByRecursion}
use Rattle.cb_names.specs.Names.{HasNoAngle}
use Rattle.cb_names.proofs.ClassNames.{IsSeen}
use Rattle.cb_names.proofs.KindsOfNames.{NoSlash}
use Rattle.cb_names.proofs.name.name_kinds.Given as goal

abbrev pub invariant-loop-unit : goal.invariant-loop-unit
invariant-loop-unit l = record {
  seen : IsSeen (take l.unit-index l.text) l.begun;
  parted : (l.parted ≡ false) ↔ AllByRecursion NoSlash (take l.unit-index l.text);
  angled : (l.angled ≡ false) ↔ HasNoAngle (take l.unit-index l.text);
}
