use Rattle.std.proofs.Common.{◌≡◌, Some, take, map}
use Rattle.cb_text.specs.Naming.{class_at}
use Rattle.cb_core.specs.Recorded.{entered, with_each, with_class}
use Rattle.cb_core.proofs.Building.{Gathers}
use Rattle.cb_core.proofs.record.interfaces_of.Given as goal

abbrev pub invariant-loop-name : goal.invariant-loop-name
invariant-loop-name l = record {
  gathers : Gathers (λ name. name.now) (λ name. 2) (λ pool name index. class_at pool index ≡ Some name) (take l.name-index l.names) l.fn.pool l.pool l.indices;
  made : with_each with_class (map (λ name. name.now) (take l.name-index l.names)) l.fn.pool ≡ entered l.pool l.indices;
}
