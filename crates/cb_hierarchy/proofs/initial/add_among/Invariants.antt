use Rattle.std.proofs.Common.{◌≡◌, ◌++◌, filter, nat_eq, take}
use Rattle.std.specs.HashSet.{contains}
use Rattle.cb_hierarchy.proofs.initial.add_among.Given as goal

abbrev pub invariant-loop-class : goal.invariant-loop-class
invariant-loop-class l = l.list ≡ l.initial.list ++ filter (contains nat_eq l.bodies) (take l.class-index l.classes)
