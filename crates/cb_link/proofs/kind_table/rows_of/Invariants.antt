use Rattle.std.proofs.Common.{◌≡◌, map, take}
use Rattle.cb_link.specs.InnerKinds.{row_with}
use Rattle.cb_link.proofs.kind_table.rows_of.Given as goal

abbrev pub invariant-loop-kind : goal.invariant-loop-kind
invariant-loop-kind l = l.rows ≡ map (row_with l.resolver l.kinds l.names) (take l.kind l.kinds)
