use Rattle.std.proofs.Common.{◌-◌, take}
use Rattle.std.specs.List.{AllByRecursion}
use Rattle.cb_classfile.specs.Pool.{IsNamed}
use Rattle.cb_classfile.proofs.constants.Constants.are_named.Given as goal

abbrev pub invariant-loop-index : goal.invariant-loop-index
invariant-loop-index l = AllByRecursion (IsNamed l.self) (take (l.index - 1) l.self)
