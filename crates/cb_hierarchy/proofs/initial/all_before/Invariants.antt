use Rattle.std.proofs.Common.{◌≡◌, map, nat_eq, take}
use Rattle.std.specs.HashSet.{contains}
use Rattle.cb_hierarchy.specs.InnerBeginnings.{before_by}
use Rattle.cb_hierarchy.specs.Inner.{list_at}
use Rattle.cb_hierarchy.proofs.initial.all_before.Given as goal

abbrev pub invariant-loop-class : goal.invariant-loop-class
invariant-loop-class l = l.lists ≡ map (before_by (contains nat_eq l.bodies) (list_at l.enumerated)) (take l.class-index l.classes)
