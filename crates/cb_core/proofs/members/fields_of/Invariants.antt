use Rattle.std.proofs.Common.{◌≡◌, take, map}
use Rattle.cb_classfile.specs.Library.{SaysField}
use Rattle.cb_core.specs.Rowed.{field_row}
use Rattle.cb_core.specs.Recorded.{entered, with_each, with_variable}
use Rattle.cb_core.proofs.Building.{Gathers}
use Rattle.cb_core.proofs.members.fields_of.Given as goal

abbrev pub invariant-loop-row : goal.invariant-loop-row
invariant-loop-row l = record {
  gathers : Gathers field_row (λ row. 2) SaysField (take l.row-index l.rows) l.fn.pool l.pool l.fields;
  made : with_each with_variable (map field_row (take l.row-index l.rows)) l.fn.pool ≡ entered l.pool l.fields;
}
