use Rattle.std.proofs.Common.{◌≡◌, map, take}
use Rattle.cb_link.specs.InnerKinds.{inner_name}
use Rattle.cb_link.proofs.kind_table.inner_names.Given as goal

abbrev pub invariant-loop-kind : goal.invariant-loop-kind
invariant-loop-kind l = l.names ≡ map inner_name (take l.kind l.kinds)
