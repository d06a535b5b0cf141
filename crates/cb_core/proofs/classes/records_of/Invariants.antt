use Rattle.std.proofs.Common.{◌≡◌, map, take}
use Rattle.std.specs.List.{AllZip}
use Rattle.cb_core.specs.Built.{IsBuilt}
use Rattle.cb_core.specs.Recorded.{record_of}
use Rattle.cb_core.specs.Rowed.{part_rows}
use Rattle.cb_core.proofs.classes.records_of.Given as goal

abbrev pub invariant-loop-part : goal.invariant-loop-part
invariant-loop-part l = record {
  built : AllZip IsBuilt (part_rows (take l.part-index l.parts)) l.classes;
  made : l.classes ≡ map record_of (part_rows (take l.part-index l.parts));
}
