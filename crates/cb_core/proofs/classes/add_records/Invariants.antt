use Rattle.std.proofs.Common.{◌≡◌, List, ◌++◌, map, take}
use Rattle.std.specs.List.{AllZip}
use Rattle.cb_core.specs.Built.{IsBuilt}
use Rattle.cb_core.specs.Recorded.{record_of}
use Rattle.cb_core.specs.Rowed.{class_row}
use Rattle.cb_library.specs.Rows.{CoreClass as Row}
use Rattle.cb_core.proofs.classes.add_records.Given as goal

abbrev pub invariant-loop-row : goal.invariant-loop-row
invariant-loop-row l = record {
  built : (others : List Row) → AllZip IsBuilt others l.initial.classes → AllZip IsBuilt (others ++ map class_row (take l.row-index l.rows)) l.classes;
  made : l.classes ≡ l.initial.classes ++ map record_of (map class_row (take l.row-index l.rows));
}
