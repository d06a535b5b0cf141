use Rattle.std.proofs.Common.{◌≡◌, take, map}
use Rattle.cb_classfile.specs.Library.{IsObjectOf}
use Rattle.cb_core.specs.Recorded.{entered, with_each, with_local}
use Rattle.cb_core.proofs.Building.{Gathers}
use Rattle.cb_core.proofs.frame.locals_of.Given as goal

abbrev pub invariant-loop-name : goal.invariant-loop-name
invariant-loop-name l = record {
  gathers : Gathers (λ name. name.now) (λ name. 2) IsObjectOf (take l.name-index l.names) l.fn.pool l.pool l.locals;
  made : with_each with_local (map (λ name. name.now) (take l.name-index l.names)) l.fn.pool ≡ entered l.pool l.locals;
}
